use Rattle.std.proofs.Common.{◌≡◌, ◌+◌}
use Rattle.run_log.specs.ArmedWorlds.{armed_view}
use Rattle.runtime.specs.Turning.{AreLate, progress}
use Rattle.runtime.proofs.turning.Table.catch_up.Given as goal

-- so many late lines were passed
abbrev pub invariant-loop-line : goal.invariant-loop-line
invariant-loop-line g l = record {
  late : AreLate g.ThisRun.Run.rooms g.ThisRun.Run.script l._line (progress (armed_view l.fn.self.log.armed) l.fn.self.log.passed)
      (progress (armed_view l.self.log.armed) l.self.log.passed);
  passed : l.self.log.passed ≡ l.fn.self.log.passed + l._line;
}
