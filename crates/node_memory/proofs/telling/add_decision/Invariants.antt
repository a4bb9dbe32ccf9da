use Rattle.std.proofs.Common.{◌≡◌, ◌++◌, drop, map}
use Rattle.protocol.specs.Node.Common.{commit_to}
use Rattle.node_memory.proofs.telling.add_decision.Given as goal

abbrev pub invariant-loop-node : goal.invariant-loop-node
invariant-loop-node l =
    l.packets.items ++ map (commit_to l.home l.decision.number) (drop l.node-index l.node-items)
    ≡ l.fn.packets.items ++ map (commit_to l.home l.decision.number) l.node-items
