use Rattle.std.proofs.Common.{◌≡◌, ◌++◌, drop, map}
use Rattle.protocol.specs.Node.Common.{network_of}
use Rattle.protocol.specs.Node.Telling.{undone_packet}
use Rattle.node_memory.proofs.sending.add_undone.Given as goal

abbrev pub invariant-loop-outbox : goal.invariant-loop-outbox
invariant-loop-outbox l =
    l.packets.items
    ++ map (undone_packet (network_of l.net.program) l.home l.epoch) (drop l.outbox-index l.outboxes)
    ≡ l.fn.packets.items ++ map (undone_packet (network_of l.net.program) l.home l.epoch) l.outboxes
