-- The two windows of a link, and what each call makes of them.
use Rattle.std.specs.Prelude.{◌≡◌, ◌==◌, ◌&&◌, ℕ, zero, suc, ◌+◌, ◌-◌, ◌≤◌, ℤ, Bool, true, false, nat_lt, nat_le, max}
use Rattle.std.specs.Prelude.{if◌then◌else◌, List, [], ◌∷◌, ◌++◌, length, drop, Option, Some, None, slice_get, slice_set}
use Rattle.circular_buffer.specs.Buffer.{Buffer}
use Rattle.window_link.specs.declared.sending.TheConstants.{LARGEST_WINDOW}
use Rattle.kahn_net.specs.declared.limits.TheConstants.{MAX_COUNT}
use Rattle.window_link.specs.declared.receiving.Arrival.{Arrival}
use Rattle.window_link.specs.declared.receiving.Arrival.TheVariants.{Taken, Held, Dropped}
use Rattle.window_link.specs.declared.receiving.Ack.{Ack}

-- ---- the sender

-- the window at the sending node of a channel: how many positions may be under way, and what was acknowledged last,
-- in which epoch and up to where
pub record Sender : Type 0 where
  pub size : ℕ
  pub epoch : ℕ
  pub acknowledged : ℕ

pub record IsWindow (size : ℕ) : Type 0 where
  pub some : 1 ≤ size
  pub most : size ≤ LARGEST_WINDOW

-- a position of the log from `base` to `end` is due
abbrev pub is_due : Sender → ℕ → ℕ → ℕ → Bool
is_due sender base end position =
    nat_le (max sender.acknowledged base) position
    && (nat_lt position (max sender.acknowledged base + sender.size) && nat_lt position end)

-- a sender's window after an acknowledgement: one of an older epoch says nothing, one of a newer epoch counts as it
-- is, and one of the same epoch only raises
abbrev pub sender_after : Sender → ℕ → ℕ → Sender
sender_after sender epoch next =
    if nat_lt epoch sender.epoch then sender
    else if nat_lt sender.epoch epoch then record { size = sender.size; epoch = epoch; acknowledged = next }
    else record { size = sender.size; epoch = sender.epoch; acknowledged = max sender.acknowledged next }

-- nothing is acknowledged
abbrev pub sender_reset : Sender → Sender
sender_reset sender = record { size = sender.size; epoch = 0; acknowledged = 0 }

-- ---- the receiver

-- the window at the receiving node of a channel: which position is taken next, in which epoch, and what is held, a
-- place for each of so many positions from the next one on
pub record Receiver : Type 0 where
  pub epoch : ℕ
  pub next : ℕ
  pub held : List (Option ℤ)

-- what is true of every receiver, whose places lie in this ring
pub record IsReceiver (epoch next : ℕ) (held : Buffer (Option ℤ)) : Type 0 where
  pub epoch_within : epoch ≤ MAX_COUNT
  pub next_within : next ≤ MAX_COUNT
  pub each : length held.items ≡ held.capacity
  pub size : IsWindow held.capacity

-- there is such a place, and nothing is held there
abbrev pub is_free : Option (Option ℤ) → Bool
is_free None = false
is_free (Some None) = true
is_free (Some (Some item)) = false

-- a position that no item came of yet, and that the window has a place for; no item has the last number
abbrev pub is_open : Receiver → ℕ → Bool
is_open window position =
    nat_le window.next position
    && (nat_lt position MAX_COUNT && is_free (slice_get window.held (position - window.next)))

-- the next position is taken, a later one is held, and any that isn't open is dropped
abbrev pub arrival_at : Receiver → ℕ → Arrival
arrival_at window position =
    if is_open window position then (if position == window.next then Taken else Held) else Dropped

-- the window one position on: its places move up, and the last one is free
abbrev pub advanced : Receiver → Receiver
advanced window =
    record { epoch = window.epoch; next = window.next + 1; held = drop 1 window.held ++ None ∷ [] }

-- the window with an item of a later position
abbrev pub with_held : Receiver → ℕ → ℤ → Receiver
with_held window position item =
    record {
      epoch = window.epoch;
      next = window.next;
      held = slice_set window.held (position - window.next) (Some item);
    }

-- the window after an item came of which this became
abbrev pub window_after : Arrival → Receiver → ℕ → ℤ → Receiver
window_after Taken window position item = advanced window
window_after Held window position item = with_held window position item
window_after Dropped window position item = window

-- what an item that comes leaves, and what becomes of it
pub record Received : Type 0 where
  pub window : Receiver
  pub answer : Arrival

-- what comes of an item at a position: it is taken where it comes next, with what was held behind it; held where it
-- comes within the window; and else dropped
abbrev pub received : Receiver → ℕ → ℤ → Received
received window position item =
    record {
      window = window_after (arrival_at window position) window position item;
      answer = arrival_at window position;
    }

-- the item that is held at a place
abbrev pub held_in : Option (Option ℤ) → Option ℤ
held_in None = None
held_in (Some held) = held

abbrev pub held_at : Receiver → ℕ → Option ℤ
held_at window place = held_in (slice_get window.held place)

-- the item of the next position, if it is held
abbrev pub next_held : Receiver → Option ℤ
next_held window = if nat_lt window.next MAX_COUNT then held_at window 0 else None

-- what is left once this came out, or nothing did
abbrev pub window_without : Option ℤ → Receiver → Receiver
window_without None window = window
window_without (Some item) window = advanced window

-- what a pop leaves, and what comes out
pub record Popped : Type 0 where
  pub window : Receiver
  pub item : Option ℤ

abbrev pub popped : Receiver → Popped
popped window = record { window = window_without (next_held window) window; item = next_held window }

abbrev pub ack_of : Receiver → Ack
ack_of window = record { epoch = window.epoch; next = window.next }

-- ---- several pops

-- the window after so many pops
abbrev pub popped_times : ℕ → Receiver → Receiver
popped_times zero window = window
popped_times (suc times) window = (popped (popped_times times window)).window

-- the items that lie at the first places, up to the first one that is free
abbrev pub ready_items : List (Option ℤ) → List ℤ
ready_items [] = []
ready_items (None ∷ places) = []
ready_items (Some item ∷ places) = item ∷ ready_items places
