use Rattle.std.proofs.Common.{◌≡◌, drop}
use Rattle.recovery_line.specs.Observers.{names}
use Rattle.decide_core.proofs.hearing.names.Given as goal

abbrev pub invariant-loop-decision : goal.invariant-loop-decision
invariant-loop-decision l =
    names (drop l.decision-index l.decisions) l.number l.node ≡ names l.decisions l.number l.node
