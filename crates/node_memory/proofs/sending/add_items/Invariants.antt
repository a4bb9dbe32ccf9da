use Rattle.std.proofs.Common.{◌≡◌, ◌+◌, ◌++◌, drop}
use Rattle.protocol.specs.Node.Sending.{data_packets}
use Rattle.node_memory.proofs.sending.add_items.Given as goal

abbrev pub invariant-loop-offset : goal.invariant-loop-offset
invariant-loop-offset l =
    l.packets.items ++ data_packets l.home l.to l.channel (l.first + l.offset) (drop l.offset l.items)
    ≡ l.fn.packets.items ++ data_packets l.home l.to l.channel l.first l.items
