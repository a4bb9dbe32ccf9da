-- The value of a cell together with two slots beside it. What a crash leaves of them is told of all three at once: a
-- reader has to know that the value which is left and the slot which it names come from one and the same crash.
use Rattle.std.specs.Prelude.{◌≡◌, ℕ, zero, suc, List, Option, Some}
use Rattle.sector_disk.specs.Clock.{Only, LeavesOnly}
use Rattle.gate_cell.specs.ValueCall.{ValueCall, Looks, Puts, Crashes}

-- What a crash leaves of a cell with slots, at one moment: its value, called the header here, and the two slots. Each
-- part is none where a length stands there that doesn't fit.
pub record Whole : Type 0 where
  pub header : Option (List ℕ)
  pub first : Option (List ℕ)
  pub second : Option (List ℕ)

-- what is in slot 0, or in slot 1
abbrev pub slot_in : ℕ → Whole → Option (List ℕ)
slot_in zero whole = whole.first
slot_in (suc k) whole = whole.second

-- the same but for one slot
abbrev pub with_slot : ℕ → Option (List ℕ) → Whole → Whole
with_slot zero bytes whole = record whole { first = bytes }
with_slot (suc k) bytes whole = record whole { second = bytes }

-- the same but for the header
abbrev pub with_header : Option (List ℕ) → Whole → Whole
with_header value whole = record whole { header = value }

-- A put may leave what might have been left before it, or that with the new value in the header.
pub data LeftByPut (may_leave : Whole → Type 0) (value : List ℕ) (left : Whole) : Type 0 where
  AsBefore : may_leave left → LeftByPut may_leave value left
  WithValue : (was : Whole) → may_leave was → left ≡ with_header (Some value) was → LeftByPut may_leave value left

-- A fill may leave what might have been left before it, with anything at all in the one slot.
pub record LeftByFill (may_leave : Whole → Type 0) (slot : ℕ) (left : Whole) : Type 0 where
  pub was : Whole
  pub might : may_leave was
  pub torn : left ≡ with_slot slot (slot_in slot left) was

module _ {C : Type 0} (whole : C → Whole) (slot_room : C → ℕ) (moment : C → ℕ) (left_since : C → ℕ → Whole → Type 0)
    (may_leave : C → Whole → Type 0) (old new : C) where
  -- nothing changes, and a crash at any moment leaves what it might have left before
  pub record OnlyLooks : Type 0 where
    pub same : whole new ≡ whole old
    pub same_slot_room : slot_room new ≡ slot_room old
    pub any_moment : LeavesOnly moment left_since old new (may_leave old)

  -- both slots stay at every moment, and the header is the old one or this
  pub record OnlyPuts (value : List ℕ) : Type 0 where
    pub same_slot_room : slot_room new ≡ slot_room old
    pub any_moment : LeavesOnly moment left_since old new (LeftByPut (may_leave old) value)

  -- what might have been left is settled
  pub record OnlyCrashes : Type 0 where
    pub settled : Only (whole new) (may_leave new)
    pub same_slot_room : slot_room new ≡ slot_room old
    pub any_moment : LeavesOnly moment left_since old new (may_leave old)

-- what a call of the value does to header and slots
abbrev pub IsCall : {C : Type 0} → (C → Whole) → (C → ℕ) → (C → ℕ) → (C → ℕ → Whole → Type 0) → (C → Whole → Type 0)
    → ValueCall → C → C → Type 0
IsCall whole slot_room moment left_since may_leave Looks old new =
    OnlyLooks whole slot_room moment left_since may_leave old new
IsCall whole slot_room moment left_since may_leave (Puts value) old new =
    OnlyPuts whole slot_room moment left_since may_leave old new value
IsCall whole slot_room moment left_since may_leave Crashes old new =
    OnlyCrashes whole slot_room moment left_since may_leave old new
