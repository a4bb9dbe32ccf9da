-- What a call of a run's log comes to.
use Rattle.std.specs.Prelude.{◌≡◌, ℕ}
use Rattle.gate_cell.specs.declared.cell.StableCell.{Ghosts as CellWords}
use Rattle.slot_cell.specs.declared.slot_cell.SlotCell.{Ghosts as SlotWords}
use Rattle.outlet.specs.declared.outlet.Outlet.{Ghosts as OutletWords}
use Rattle.protocol.specs.World.Common.{ReplyView}
use Rattle.replay.specs.Armed.{ArmedEvent, IsArmedStep}
use Rattle.replay.specs.Replay.{passed_by}
use Rattle.replay.specs.declared.kept.Maker.{Maker}
use Rattle.run_log.specs.Added.{IsAdded}
use Rattle.run_log.specs.Answers.{IsFaultWritten, IsToldEvent, IsToldFault, IsToldTurn, IsTurnWritten}
use Rattle.run_log.specs.ArmedWorlds.{armed_view}
use Rattle.run_log.specs.Numbers.{Numbers}
use Rattle.run_log.specs.RunLogs.{IsFull, IsSameLog}
use Rattle.run_log.specs.SeatCounts.{run_numbers}
use Rattle.run_log.specs.Turns.{IsFault, IsTurn, passed_then}
use Rattle.run_log.specs.declared.answer.FaultAnswer.{FaultAnswer}
use Rattle.run_log.specs.declared.answer.HubFault.{HubFault}
use Rattle.run_log.specs.declared.answer.HubFault.TheVariants.{PastNumber}
use Rattle.run_log.specs.declared.answer.TurnAnswer.{TurnAnswer}
use Rattle.run_log.specs.declared.run_log.RunLog.{RunLog}
use Rattle.run_log.specs.declared.seat_count.Run.{Ghosts as RunWords}

module _ {C O ThisRun : Type 0} {cell : CellWords C} {slots : SlotWords C} {outlet : OutletWords O} {run : RunWords ThisRun} where
  -- A call is refused for this: it leaves the log and its seat's numbers as they were. With 44 only where a count stands at 2^63 - 1.
  pub record IsRefused (fault : HubFault) (old new : RunLog C O ThisRun slots cell outlet run) (before after : Numbers) : Type 0 where
    pub same : IsSameLog old new
    pub numbers : after ≡ before
    pub full : fault ≡ PastNumber → IsFull old

  -- Nothing is made or counted.
  pub record IsUntouched (old new : RunLog C O ThisRun slots cell outlet run) : Type 0 where
    pub same : IsSameLog old new
    pub keeps : new.keeps ≡ old.keeps
    pub totals : run_numbers new.totals ≡ run_numbers old.totals
    pub stops : new.stops ≡ old.stops

  -- An event of this maker is made, and answered so: it is a step of the world, and where what happens is written it stands behind all others
  -- with this very answer.
  pub record IsEventMade (maker : Maker) (event : ArmedEvent) (reply : ReplyView) (old new : RunLog C O ThisRun slots cell outlet run)
      (before after : Numbers) : Type 0 where
    pub seat : IsToldEvent run.rooms run.script run.opening maker reply before after
    pub added : IsAdded old.keeps maker event reply old.lines.items new.lines.items
    pub step : IsArmedStep run.rooms event (armed_view old.armed) reply (armed_view new.armed)
    pub passed : new.passed ≡ passed_by maker old.passed
    pub running : new.stopped ≡ old.stopped

  -- A node's turn is answered so. Where what happens is written, the event has this very answer, or the answer is counted.
  pub record IsTurnAnswer (node : ℕ) (answer : TurnAnswer) (old new : RunLog C O ThisRun slots cell outlet run) (before after : Numbers)
      : Type 0 where
    pub seat : IsToldTurn run.rooms run.script run.opening node answer before after
    pub written : IsTurnWritten old.keeps node old.lines.items new.lines.items answer
    pub turned : IsTurn run.rooms run.script old.passed node answer (armed_view old.armed) (armed_view new.armed)
    pub passed : new.passed ≡ old.passed
    pub running : new.stopped ≡ old.stopped

  -- The driver's turn is answered so, as a node's is.
  pub record IsFaultAnswer (answer : FaultAnswer) (old new : RunLog C O ThisRun slots cell outlet run) (before after : Numbers) : Type 0 where
    pub seat : IsToldFault run.rooms run.script run.opening answer before after
    pub written : IsFaultWritten old.keeps old.lines.items new.lines.items answer
    pub played : IsFault run.rooms run.script old.passed answer (armed_view old.armed) (armed_view new.armed)
    pub passed : new.passed ≡ passed_then answer old.passed
    pub running : new.stopped ≡ old.stopped
