-- What a run's log holds, and what a refused call leaves of it.
use Rattle.std.specs.Prelude.{◌≡◌, ◌≤◌, ◌⊎◌, List}
use Rattle.gate_cell.specs.declared.cell.StableCell.{Ghosts as CellWords}
use Rattle.kahn_net.specs.declared.limits.TheConstants.{MAX_COUNT}
use Rattle.slot_cell.specs.declared.slot_cell.SlotCell.{Ghosts as SlotWords}
use Rattle.outlet.specs.declared.outlet.Outlet.{Ghosts as OutletWords}
use Rattle.replay.specs.Replay.{Happening}
use Rattle.run_log.specs.ArmedWorlds.{armed_view}
use Rattle.run_log.specs.Counts.{HasFullLine}
use Rattle.run_log.specs.Lines.{happenings}
use Rattle.run_log.specs.SeatCounts.{run_numbers}
use Rattle.run_log.specs.declared.run_log.RunLog.{RunLog}
use Rattle.run_log.specs.declared.seat_count.Run.{Ghosts as RunWords}

module _ {C O ThisRun : Type 0} {cell : CellWords C} {slots : SlotWords C} {outlet : OutletWords O} {run : RunWords ThisRun} where
  -- what is written there
  abbrev pub happened_in : RunLog C O ThisRun slots cell outlet run → List Happening
  happened_in log = happenings log.lines.items

  -- its world, its lines, how many lines of the script are passed, and whether it is stopped
  pub record IsSameLog (old new : RunLog C O ThisRun slots cell outlet run) : Type 0 where
    pub world : armed_view new.armed ≡ armed_view old.armed
    pub lines : new.lines.items ≡ old.lines.items
    pub passed : new.passed ≡ old.passed
    pub stopped : new.stopped ≡ old.stopped

  -- a count stands at 2^63 - 1: of events, of answers `Stopped`, or of how often it was said that no event was made
  abbrev pub IsFull : RunLog C O ThisRun slots cell outlet run → Type 0
  IsFull log =
      (MAX_COUNT ≤ (run_numbers log.totals).entries) ⊎ (MAX_COUNT ≤ log.stops) ⊎ HasFullLine log.lines.items
