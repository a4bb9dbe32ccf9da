use Rattle.std.proofs.Common.{◌≡◌, ◌++◌, take}
use Rattle.std.specs.List.{flat_map}
use Rattle.protocol.specs.Node.Common.{network_of}
use Rattle.protocol.specs.Node.Sending.{outbox_packets}
use Rattle.node_memory.proofs.sending.add_all_outgoing.Given as goal

abbrev pub invariant-loop-outbox : goal.invariant-loop-outbox
invariant-loop-outbox l =
    l.packets.items
    ≡ l.fn.packets.items
    ++ flat_map (outbox_packets (network_of l.net.program) l.home l.current) (take l.outbox-index l.outboxes)
