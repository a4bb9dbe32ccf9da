-- Between which nodes a channel runs, and which names in a packet are right.
use Rattle.std.specs.Prelude.{◌==◌, ℕ, nat_lt, Bool, false, ◌&&◌, not, Option, Some, None, slice_get}
use Rattle.std.specs.List.{list_all}
use Rattle.ckpt_codec.specs.Common.{node_count, Network, Channel, Port}
use Rattle.datagram.specs.declared.packet.Need.{Need}
use Rattle.datagram.specs.declared.packet.Packet.{Packet}
use Rattle.datagram.specs.declared.packet.Body.{Body}
use Rattle.datagram.specs.declared.packet.Body.TheVariants.{Data, Ack, Kept, Ask, Took, Covered, Refused, Query, Commit}
use Rattle.datagram.specs.declared.packet.Body.TheVariants.{Ended, Settled, Undone}
use Rattle.protocol.specs.Node.Layout.{consumer_of, is_incoming, is_outgoing, node_at, port_on, producer_of}

-- the number under which a node is addressed: 0 where there is none, to which no packet goes
abbrev pub address : Option ℕ → ℕ
address None = 0
address (Some node) = node

abbrev pub port_node : Network → Port → ℕ
port_node net port = address (node_at net port)

-- the node from which the items of a channel come, as the address of a packet
abbrev pub producer_node : Network → ℕ → ℕ
producer_node net c = address (producer_of net (slice_get net.channels c))

-- the node to which the items of a channel go, as the address of a packet
abbrev pub consumer_node : Network → ℕ → ℕ
consumer_node net c = address (consumer_of net (slice_get net.channels c))

abbrev pub ends_run : Network → ℕ → ℕ → Option Channel → Bool
ends_run net from to None = false
ends_run net from to (Some ends) = port_on net from ends.producer && port_on net to ends.consumer

-- the channel runs from a process of one node to a process of another
abbrev pub runs_between : Network → ℕ → ℕ → ℕ → Bool
runs_between net from to c = not (from == to) && ends_run net from to (slice_get net.channels c)

-- these are two nodes of the network
abbrev pub are_nodes : Network → ℕ → ℕ → Bool
are_nodes net from to = not (from == to) && (nat_lt from (node_count net) && nat_lt to (node_count net))

-- The channels and nodes that are named are right. An item and an undoing go from the sender of the channel to its
-- receiver, an acknowledgement and what was kept the other way. What is asked for was put by the node that is asked,
-- and what it answers speaks of that; the channels of its own needs come to it from other nodes.
abbrev pub names_run : Network → ℕ → ℕ → Body → Bool
names_run net from to (Data channel position item) = runs_between net from to channel
names_run net from to (Ack channel epoch next) = runs_between net to from channel
names_run net from to (Kept channel count) = runs_between net to from channel
names_run net from to (Ask number channel count) = are_nodes net from to && is_outgoing net to channel
names_run net from to (Took number channel count needs) =
    are_nodes net from to &&
    (is_outgoing net from channel && list_all (λ (need : Need). is_incoming net from need.channel) needs)
names_run net from to (Covered number channel count) = are_nodes net from to && is_outgoing net from channel
names_run net from to (Refused number channel reason) = are_nodes net from to && is_outgoing net from channel
names_run net from to (Query number) = are_nodes net from to
names_run net from to (Commit number) = are_nodes net from to
names_run net from to (Ended number) = are_nodes net from to
names_run net from to (Settled number) = are_nodes net from to
names_run net from to (Undone channel epoch sent) = runs_between net from to channel

-- a packet names two nodes of the network, and channels that run between them as it says
abbrev pub names_right : Network → Packet → Bool
names_right net packet = names_run net packet.from packet.to packet.body
