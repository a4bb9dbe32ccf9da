use Rattle.std.proofs.Common.{◌≡◌, drop, map, max}
use Rattle.kahn_net.specs.Common.{node_count, code_of, network_of}
use Rattle.kahn_net.specs.Nodes.{nodes_above}
use Rattle.marks.proofs.owners.count_nodes.Given as goal

-- the nodes of the processes that were looked at, and of those that weren't
abbrev pub invariant-loop-process : goal.invariant-loop-process
invariant-loop-process l =
    max l.count (nodes_above (map code_of (drop l.process-index l.process-items)))
    ≡ node_count (network_of l.net.program)
