-- A link as a whole: its two ends, what they sent, and whatever may happen to them.
use Rattle.std.specs.Prelude.{◌≡◌, ◌==◌, ◌&&◌, ℕ, ℤ, nat_lt, nat_le, if◌then◌else◌, List, [], ◌∷◌, ◌++◌, length, take}
use Rattle.std.specs.Prelude.{slice_get, Contains, replicate, Option, Some, None}
use Rattle.std.specs.Option.{option_to_list}
use Rattle.window_link.specs.declared.receiving.Arrival.{Arrival}
use Rattle.window_link.specs.declared.receiving.Arrival.TheVariants.{Taken, Held, Dropped}
use Rattle.window_link.specs.declared.receiving.Ack.{Ack}
use Rattle.window_link.specs.Windows.{Sender, Receiver, is_due, sender_after, sender_reset, received, popped, ack_of}

pub data LinkPacket : Type 0 where
  Item : (position : ℕ) (item : ℤ) → LinkPacket
  Acknowledgement : (ack : Ack) → LinkPacket

pub data LinkEvent : Type 0 where
  -- an item comes to the end of the sender's list
  Appended : (item : ℤ) → LinkEvent
  -- the sender goes on as after a restart: its list is cut to so many items, and it knows of no acknowledgement
  SenderSetBack : (count : ℕ) → LinkEvent
  -- the receiver goes on from an earlier position, in a higher epoch, and holds nothing
  ReceiverSetBack : (next epoch : ℕ) → LinkEvent
  -- the item at a position that is due is sent, for a log from `base` on
  ItemSent : (base position : ℕ) → LinkEvent
  AcknowledgementSent : LinkEvent
  -- a packet that was sent at any time before comes, also again and in any order
  Delivered : (place : ℕ) → LinkEvent
  -- the receiver takes the item of its next position from those that it holds
  ItemPopped : LinkEvent

pub record Link : Type 0 where
  pub sender : Sender
  pub receiver : Receiver
  -- the sender's list now, and the longest that it ever was
  pub appended : List ℤ
  pub longest : List ℤ
  -- each item that was ever appended, with its position
  pub appends : List (ℕ × ℤ)
  -- what the receiver has taken
  pub taken : List ℤ
  -- the receiver's next position in each epoch, or 0
  pub reached : ℕ → ℕ
  -- each packet that was ever sent, the last one first
  pub sent : List LinkPacket

abbrev pub longer_of : List ℤ → List ℤ → List ℤ
longer_of one other = if nat_lt (length one) (length other) then other else one

-- the same but in this epoch
abbrev pub with_reached : (ℕ → ℕ) → ℕ → ℕ → (ℕ → ℕ)
with_reached reached epoch next = λ e. if e == epoch then next else reached e

-- what comes out of the receiver with an item
abbrev pub handed_out : Arrival → ℤ → List ℤ
handed_out Taken item = item ∷ []
handed_out Held item = []
handed_out Dropped item = []

-- the sender's item at a position is sent, where it has one
abbrev pub with_item_sent : Link → ℕ → Option ℤ → Link
with_item_sent link position None = link
with_item_sent link position (Some item) = record link { sent = Item position item ∷ link.sent }

-- a packet comes to the end that it is for
abbrev pub with_delivered : Link → Option LinkPacket → Link
with_delivered link None = link
with_delivered link (Some (Item position item)) =
    let come = received link.receiver position item in
    record link {
      receiver = come.window;
      taken = link.taken ++ handed_out come.answer item;
      reached = with_reached link.reached come.window.epoch come.window.next;
    }
with_delivered link (Some (Acknowledgement ack)) =
    record link { sender = sender_after link.sender ack.epoch ack.next }

-- what an event leaves; one that can't happen leaves the link as it is
abbrev pub after : Link → LinkEvent → Link
after link (Appended item) =
    record link {
      appended = link.appended ++ item ∷ [];
      longest = longer_of link.longest (link.appended ++ item ∷ []);
      appends = (length link.appended, item) ∷ link.appends;
    }
after link (SenderSetBack count) =
    record link { sender = sender_reset link.sender; appended = take count link.appended }
after link (ReceiverSetBack next epoch) =
    if nat_lt link.receiver.epoch epoch && nat_le next link.receiver.next
    then record link {
      receiver = record { epoch = epoch; next = next; held = replicate (length link.receiver.held) None };
      taken = take next link.taken;
      reached = with_reached link.reached epoch next;
    }
    else link
after link (ItemSent base position) =
    if is_due link.sender base (length link.appended) position
    then with_item_sent link position (slice_get link.appended position)
    else link
after link AcknowledgementSent =
    record link { sent = Acknowledgement (ack_of link.receiver) ∷ link.sent }
after link (Delivered place) = with_delivered link (slice_get link.sent place)
after link ItemPopped =
    let left = popped link.receiver in
    record link {
      receiver = left.window;
      taken = link.taken ++ option_to_list left.item;
      reached = with_reached link.reached left.window.epoch left.window.next;
    }

-- whatever happens, one event after another
abbrev pub run : List LinkEvent → Link → Link
run [] link = link
run (event ∷ events) link = run events (after link event)

-- a link on which nothing has happened yet, with windows of this size at both ends
abbrev pub opening : ℕ → Link
opening size =
    record {
      sender = record { size = size; epoch = 0; acknowledged = 0 };
      receiver = record { epoch = 0; next = 0; held = replicate size None };
      appended = [];
      longest = [];
      appends = [];
      taken = [];
      reached = λ e. 0;
      sent = [];
    }

-- two items appended at one position, at whatever times, are equal
abbrev pub IsOneItemEach : List (ℕ × ℤ) → Type 0
IsOneItemEach appends =
    (position : ℕ) (one other : ℤ) → Contains appends (position, one) → Contains appends (position, other) → one ≡ other
