use Rattle.std.proofs.Common.{◌≡◌, drop}
use Rattle.recovery_line.specs.Observers.{has_node}
use Rattle.decide_core.proofs.hearing.has_node.Given as goal

abbrev pub invariant-loop-other : goal.invariant-loop-other
invariant-loop-other l =
    has_node l.node (drop l.other-index l.nodes) ≡ has_node l.node l.nodes
