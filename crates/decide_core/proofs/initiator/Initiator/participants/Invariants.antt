use Rattle.std.proofs.Common.{◌≡◌, ℕ, ◌++◌, ◌-◌, map}
use Rattle.recovery_line.specs.Observers.{has_node}
use Rattle.protocol.specs.Node.Layout.{numbers_where}
use Rattle.protocol.specs.Node.Verdicts.{participants_of}
use Rattle.decide_core.proofs.initiator.Initiator.participants.Given as goal

abbrev pub invariant-loop-node : goal.invariant-loop-node
invariant-loop-node l =
    l.participants.items ++ map (λ (n : ℕ). n) (numbers_where (λ p. has_node p l.takers) l.node (l.nodes - l.node))
    ≡ participants_of l.nodes l.takers
