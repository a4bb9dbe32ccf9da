use Rattle.std.proofs.Common.{◌≡◌, true, false}
use Rattle.run_log.specs.ArmedWorlds.{armed_view}
use Rattle.run_log.specs.SeatCounts.{seat_numbers, seat_parts}
use Rattle.runtime.specs.Turning.{ArePassed, progress}
use Rattle.runtime.proofs.Beginnings.{AreAllOf}
use Rattle.runtime.proofs.driving.begin.Given as goal

-- so many lines were passed, and nothing else happened
abbrev pub invariant-loop-line : goal.invariant-loop-line
invariant-loop-line g l = record {
  parts : seat_parts l.count ≡ seat_parts l.fn.count;
  counts : l.made ≡ (seat_numbers l.count).entries;
  running : l.log.stopped ≡ false;
  at : l.log.passed ≡ l._line;
  passed : ArePassed g.ThisRun.Run.rooms g.ThisRun.Run.script l._line (progress (armed_view l.fn.log.armed) 0)
      (progress (armed_view l.log.armed) l.log.passed);
  begun : g.ThisRun.Run.keeps ≡ true → AreAllOf l._line l.log.lines.items;
}
