use Rattle.std.proofs.Common.{◌≡◌, ◌++◌, ◌-◌, map, length}
use Rattle.protocol.specs.Node.Common.{network_of, incoming_on, is_incoming, numbers_where, kept_packet}
use Rattle.node.proofs.doubt.kept_packets.Given as goal

-- what is listed, and then what is to come
abbrev pub invariant-loop-channel : goal.invariant-loop-channel
invariant-loop-channel l =
    l.packets.items
    ++ map (kept_packet (network_of l.net.program) l.home l.permanent)
    (numbers_where (is_incoming (network_of l.net.program) l.home) l.channel
    (length l.net.program.channels.items - l.channel))
    ≡ map (kept_packet (network_of l.net.program) l.home l.permanent) (incoming_on (network_of l.net.program) l.home)
