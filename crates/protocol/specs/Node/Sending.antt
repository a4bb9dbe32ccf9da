-- What a node says to the others of the channels between them.
use Rattle.std.specs.Prelude.{ℕ, suc, max, List, [], ◌∷◌, ℤ, take, Option, Some, None}
use Rattle.std.specs.Prelude.{FitsSigned}
use Rattle.ckpt_codec.specs.Common.{Network, LogState, received_of, ImageView}
use Rattle.retained.specs.LogState.{items_since}
use Rattle.record.specs.Ends.{log_of}
use Rattle.std.specs.Int.{w64}
use Rattle.datagram.specs.PacketText.{IsPacket}
use Rattle.datagram.specs.declared.packet.Packet.{Packet}
use Rattle.datagram.specs.declared.packet.Body.{Body}
use Rattle.datagram.specs.declared.packet.Body.TheVariants.{Data, Ack, Kept, Ask, Took, Covered, Refused, Query, Commit}
use Rattle.datagram.specs.declared.packet.Body.TheVariants.{Ended, Settled, Undone}
use Rattle.protocol.specs.Node.Addresses.{producer_node, consumer_node}
use Rattle.protocol.specs.declared.links.Inbox.{Inbox}
use Rattle.protocol.specs.declared.links.Outbox.{Outbox}

-- of a channel from another node: the position that is taken next, and how many items the permanent image received
abbrev pub inbox_packets : Network → ℕ → ImageView → Inbox → List Packet
inbox_packets net home permanent inbox =
    record {
      from = home;
      to = producer_node net inbox.channel;
      body =
          Ack inbox.channel inbox.window.epoch inbox.window.next;
    }
    ∷ record {
      from = home;
      to = producer_node net inbox.channel;
      body =
          Kept inbox.channel (received_of permanent inbox.channel);
    } ∷ []

-- these items of a channel, the first one of this position
abbrev pub data_packets : ℕ → ℕ → ℕ → ℕ → List ℤ → List Packet
data_packets home to channel position [] = []
data_packets home to channel position (item ∷ items) =
    record { from = home; to = to; body = Data channel position item }
    ∷ data_packets home to channel (suc position) items

-- the position of a channel from which on items are due to be sent: what lies before it was acknowledged, or isn't in
-- the log
abbrev pub first_due : Outbox → LogState → ℕ
first_due outbox log = max outbox.window.acknowledged log.base

-- the items of a channel that are due to be sent: as many as the window has places
abbrev pub items_due : Outbox → LogState → List ℤ
items_due outbox log = take outbox.window.size (items_since log (first_due outbox log))

abbrev pub log_packets : Network → ℕ → Outbox → Option LogState → List Packet
log_packets net home outbox None = []
log_packets net home outbox (Some log) =
    data_packets home (consumer_node net outbox.channel) outbox.channel (first_due outbox log) (items_due outbox log)

-- of a channel to another node: the items that are due
abbrev pub outbox_packets : Network → ℕ → ImageView → Outbox → List Packet
outbox_packets net home current outbox = log_packets net home outbox (log_of current outbox.channel)

-- an item of a packet is one of 64 bits
abbrev pub FitsItem : Body → Type 0
FitsItem (Data channel position item) = FitsSigned w64 item
FitsItem (Ack channel epoch next) = Unit {0}
FitsItem (Kept channel count) = Unit {0}
FitsItem (Ask number channel count) = Unit {0}
FitsItem (Took number channel count needs) = Unit {0}
FitsItem (Covered number channel count) = Unit {0}
FitsItem (Refused number channel reason) = Unit {0}
FitsItem (Query number) = Unit {0}
FitsItem (Commit number) = Unit {0}
FitsItem (Ended number) = Unit {0}
FitsItem (Settled number) = Unit {0}
FitsItem (Undone channel epoch sent) = Unit {0}

-- a packet that has a spelling, as far as that is not a matter of its item's width
abbrev pub IsWritable : Packet → Type 0
IsWritable packet = FitsItem packet.body → IsPacket packet
