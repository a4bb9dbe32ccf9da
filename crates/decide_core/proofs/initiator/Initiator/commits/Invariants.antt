use Rattle.std.proofs.Common.{◌≡◌, ◌++◌, drop, map}
use Rattle.protocol.specs.Node.Verdicts.{commit_to}
use Rattle.decide_core.proofs.initiator.Initiator.commits.Given as goal

abbrev pub invariant-loop-node : goal.invariant-loop-node
invariant-loop-node l =
    l.packets.items ++ map (commit_to l.home l.fn.self.number) (drop l.node-index l.node-items)
    ≡ map (commit_to l.home l.fn.self.number) l.node-items
