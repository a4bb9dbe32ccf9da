use Rattle.std.proofs.Common.{◌≡◌, drop}
use Rattle.recovery_line.specs.Observers.{decides}
use Rattle.decide_core.proofs.hearing.decides.Given as goal

abbrev pub invariant-loop-decision : goal.invariant-loop-decision
invariant-loop-decision l =
    decides (drop l.decision-index l.decisions) l.number ≡ decides l.decisions l.number
