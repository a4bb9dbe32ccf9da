use Rattle.std.proofs.Common.{◌≡◌, ◌++◌, take}
use Rattle.std.specs.List.{flat_map}
use Rattle.protocol.specs.Node.Common.{network_of, inbox_packets}
use Rattle.node_memory.proofs.sending.add_all_answers.Given as goal

abbrev pub invariant-loop-inbox : goal.invariant-loop-inbox
invariant-loop-inbox l =
    l.packets.items
    ≡ l.fn.packets.items
    ++ flat_map (inbox_packets (network_of l.net.program) l.home l.permanent) (take l.inbox-index l.inboxes)
