-- What a packet does to the ends of channels of the node that it is for, and which packets are for a node.
use Rattle.std.specs.Prelude.{◌≡◌, ℕ, ◌==◌, ◌&&◌, Bool, true, false, if◌then◌else◌, List, [], ◌∷◌, ℤ}
use Rattle.std.specs.Prelude.{Option, Some, None, option_map, slice_get, slice_set}
use Rattle.std.specs.List.{position_from}
use Rattle.ckpt_codec.specs.Common.{Network}
use Rattle.record.specs.Changes.{log_with}
use Rattle.window_link.specs.Windows.{Receiver, Received, received, sender_after}
use Rattle.window_link.specs.declared.receiving.Arrival.{Arrival}
use Rattle.window_link.specs.declared.receiving.Arrival.TheVariants as arrival
use Rattle.datagram.specs.PacketText.{IsPacket}
use Rattle.datagram.specs.Reading.{whole_at}
use Rattle.datagram.specs.declared.packet.Packet.{Packet}
use Rattle.datagram.specs.declared.packet.Body.{Body}
use Rattle.datagram.specs.declared.packet.Body.TheVariants.{Data, Ack, Kept, Ask, Took, Covered, Refused, Query, Commit}
use Rattle.datagram.specs.declared.packet.Body.TheVariants.{Ended, Settled, Undone}
use Rattle.protocol.specs.Node.Addresses.{names_right}
use Rattle.protocol.specs.Node.NodeView.{RunningView}
use Rattle.protocol.specs.Node.Popping.{has_place, popping}
use Rattle.protocol.specs.declared.delivery.Delivery.{Delivery}
use Rattle.protocol.specs.declared.delivery.Delivery.TheVariants.{NotDue, Delivered, Dropped}
use Rattle.protocol.specs.declared.links.Inbox.{Inbox}
use Rattle.protocol.specs.declared.links.Outbox.{Outbox}

-- The inbox after an item came of which the window made this. Behind one that is taken come those that the window held
-- for the positions after it.
abbrev pub with_arrival : Arrival → Receiver → ℤ → Inbox → Inbox
with_arrival arrival.Taken window item inbox =
    popping
    (record {
      channel = inbox.channel;
      window = window;
      log = log_with (item ∷ []) inbox.log;
      undone = inbox.undone;
    })
with_arrival arrival.Held window item inbox =
    record { channel = inbox.channel; window = window; log = inbox.log; undone = inbox.undone }
with_arrival arrival.Dropped window item inbox = inbox

abbrev pub after_arrival : Received → ℤ → Inbox → Inbox
after_arrival received item inbox = with_arrival received.answer received.window item inbox

-- an inbox to which the item of a position came: its window receives it where there is a place for an item, and else
-- it is dropped
abbrev pub taking : ℕ → ℤ → Inbox → Inbox
taking position item inbox =
    if has_place inbox.log then after_arrival (received inbox.window position item) item inbox else inbox

-- an outbox that has noted what was acknowledged
abbrev pub acknowledged : ℕ → ℕ → Outbox → Outbox
acknowledged epoch next outbox =
    record {
      channel = outbox.channel;
      window = sender_after outbox.window epoch next;
      restored = outbox.restored;
    }

-- a list with the element of a place so changed, where there is one
abbrev pub put_at : {A : Type 0} → List A → ℕ → Option A → List A
put_at list place None = list
put_at list place (Some x) = slice_set list place x

abbrev pub changed_at : {A : Type 0} → (A → A) → List A → Option ℕ → List A
changed_at change list None = list
changed_at change list (Some place) = put_at list place (option_map change (slice_get list place))

abbrev pub inbox_place : List Inbox → ℕ → Option ℕ
inbox_place inboxes channel = position_from (λ (inbox : Inbox). inbox.channel == channel) 0 inboxes

abbrev pub outbox_place : List Outbox → ℕ → Option ℕ
outbox_place outboxes channel = position_from (λ (outbox : Outbox). outbox.channel == channel) 0 outboxes

-- what a node has in memory after it heard this of a channel: an item, or an acknowledgement. (What else comes is about
-- checkpoints: `Hearing`.)
abbrev pub hearing : Body → RunningView → RunningView
hearing (Data channel position item) running =
    record running { inboxes = changed_at (taking position item) running.inboxes (inbox_place running.inboxes channel) }
hearing (Ack channel epoch next) running =
    record running
    { outboxes = changed_at (acknowledged epoch next) running.outboxes (outbox_place running.outboxes channel) }
hearing (Kept channel count) running = running
hearing (Ask number channel count) running = running
hearing (Took number channel count needs) running = running
hearing (Covered number channel count) running = running
hearing (Refused number channel reason) running = running
hearing (Query number) running = running
hearing (Commit number) running = running
hearing (Ended number) running = running
hearing (Settled number) running = running
hearing (Undone channel epoch sent) running = running

-- a packet that is for this node, and names nodes and channels of this network as they run
abbrev pub if_right : Network → ℕ → Option Packet → Option Packet
if_right net home None = None
if_right net home (Some packet) = if (packet.to == home) && names_right net packet then Some packet else None

-- the packet for this node, with right names, that these bytes spell, if they spell one
abbrev pub packet_for : Network → ℕ → List ℕ → Option Packet
packet_for net home bytes = if_right net home (whole_at bytes)

-- how bytes that come to a node are taken: not at all by a node that is down; dropped where they spell no packet for
-- it; and else heard
abbrev pub delivery_of : Bool → Option Packet → Delivery
delivery_of true packet = NotDue
delivery_of false None = Dropped
delivery_of false (Some packet) = Delivered

-- a packet that has a spelling comes to the node that it is for, and its names are right
pub record IsHeard (net : Network) (home : ℕ) (packet : Packet) : Type 0 where
  pub allowed : IsPacket packet
  pub here : packet.to ≡ home
  pub names : names_right net packet ≡ true
