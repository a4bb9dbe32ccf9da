-- How a put of a record comes out, and how a change of the record does that is at most one put. `cell` and `slots` are
-- the words of the cell, and those of its slots.
use Rattle.std.specs.Prelude.{◌≡◌, ◌⊎◌, ℕ, if◌then◌else◌, List, [], length, Option, Some, None, option_map, Result, Ok, Err, IfErr, OnOk}
use Rattle.std.specs.Prelude.{OnErr, IsErrOf, IsTrue}
use Rattle.sector_disk.specs.Clock.{LeavesOnly}
use Rattle.gate_cell.specs.declared.cell.StableCell.{Ghosts as CellWords}
use Rattle.gate_cell.specs.Layout.{value_in, IsFrame}
use Rattle.gate_cell.specs.Setup.{LeavesSetup}
use Rattle.slot_cell.specs.declared.slot_cell.SlotCell.{Ghosts as SlotWords}
use Rattle.ckpt_codec.specs.Common.{ImageView, RecordView, Tentative, AreAllowed, image_fields, IsImageText}
use Rattle.ckpt_codec.specs.Common.{image_length}
use Rattle.ckpt_store.specs.StoreFault.{IsOfPut, HasFailures, is_failure}
use Rattle.ckpt_store.specs.Refusals.{first_refusal, ComesFirst}
use Rattle.ckpt_store.specs.Spelling.{SpellsAt, Spells, SpellsAny, fits_in, fits_next, IsLengthTold}
use Rattle.ckpt_store.specs.declared.known.Known.{Known}
use Rattle.ckpt_store.specs.declared.fault.StoreFault.{StoreFault}
use Rattle.ckpt_store.specs.declared.fault.StoreFault.TheVariants.{Device}

-- the bytes are those of a tentative image, where there is one; where there is none, there are none
abbrev pub IsHeldWritten : Option Tentative → List ℕ → Type 0
IsHeldWritten None bytes = bytes ≡ []
IsHeldWritten (Some t) bytes =
    ((like : Option ImageView) → AreAllowed (image_fields like t.image) → IsImageText like t.image bytes)
    × (length bytes ≡ image_length t.image)

-- a frame in which an image stands, which is spelled by itself or beside another
pub record IsImageFramed (image : ImageView) (frame : List ℕ) : Type 0 where
  pub is_frame : IsFrame (value_in frame) frame
  pub text : (like : Option ImageView) → AreAllowed (image_fields like image) → IsImageText like image (value_in frame)
  pub long : length (value_in frame) ≡ image_length image

-- a frame in which a tentative image stands, where there is one; where there is none, no bytes stand in it
pub record IsHeldFramed (tentative : Option Tentative) (frame : List ℕ) : Type 0 where
  pub is_frame : IsFrame (value_in frame) frame
  pub written : IsHeldWritten tentative (value_in frame)

-- A record was put into a cell that was ready and held this one, with its permanent image in this slot; or the put was
-- refused.
pub record IsPut {C : Type 0} (cell : CellWords C) (slots : SlotWords C) (kept next : RecordView) (slot : ℕ)
    (old new : C) {T : Type 0} (result : Result T StoreFault) : Type 0 where
  -- on Ok the cell is ready, and holds the record
  pub ready : OnOk result (IsTrue (cell.is_ready new))
  pub spelled : OnOk result (SpellsAt slot next (slots.whole new))
  -- it refuses with 1, 20 and 22 alone: 22 exactly where the record doesn't fit, 20 exactly where the device failed
  pub refusals : IfErr result IsOfPut
  pub fits : IsLengthTold (fits_in (slots.slot_capacity old) next) result
  pub failures : HasFailures (cell.failure_count old) (cell.failure_count new) result
  -- and leaves the cell as it was, but at a 20
  pub unchanged : OnErr result (¬ (IsErrOf result Device) → new ≡ old)
  -- a crash at any moment leaves the one or the other
  pub any_moment : LeavesOnly cell.moment slots.left_since_whole old new (λ left. Spells kept left ⊎ Spells next left)
  -- what fits and what is armed stay, and no call that was counted is forgotten
  pub same_setup : LeavesSetup cell.capacity cell.armed cell.call_count old new
  pub same_slot_room : slots.slot_capacity new ≡ slots.slot_capacity old

-- what is known after a put of the next record
abbrev pub known_after : {T : Type 0} → Result T StoreFault → Known → Known → Option Known
known_after (Ok x) before next = Some next
known_after (Err fault) before next = if is_failure fault then None else Some before

-- A record that is known was changed to the next one by one put, or that was refused; `cause` tells the refusals for
-- which the record itself gives cause. What is known is the record, or none where the store has to be reopened.
pub record IsChange {C : Type 0} (cell : CellWords C) (slots : SlotWords C) (cause : RecordView → Option StoreFault)
    (next : RecordView → RecordView)
    (old new : C) (known known_now : Option RecordView) {T : Type 0} (result : Result T StoreFault) : Type 0 where
  -- on Ok the next record is known
  pub changed : OnOk result (known_now ≡ option_map next known)
  -- the refusal for which there is cause comes first; where there is none, those of a put may come: 22 exactly where
  -- the next record doesn't fit, and 20 exactly where the device failed
  pub refusals : ComesFirst (first_refusal cause known) result
  pub fits : IsLengthTold (fits_next (slots.slot_capacity old) (option_map next known)) result
  pub failures : HasFailures (cell.failure_count old) (cell.failure_count new) result
  -- refused, everything is as it was, but at a 20
  pub same_record : OnErr result (¬ (IsErrOf result Device) → known_now ≡ known)
  pub same_cell : OnErr result (¬ (IsErrOf result Device) → new ≡ old)
  -- after a 20 no record is known, and the cell holds the old one or the next one
  pub unknown : IsErrOf result Device → known_now ≡ None
  pub one_of_both : IsErrOf result Device
      → SpellsAny known (slots.whole new) ⊎ SpellsAny (option_map next known) (slots.whole new)
  -- a crash at any moment leaves what it might have left before, or the record that was known, or the next one
  pub any_moment : LeavesOnly cell.moment slots.left_since_whole old new
      (λ left. slots.may_leave_whole old left ⊎ (SpellsAny known left ⊎ SpellsAny (option_map next known) left))
  -- what fits and what is armed stay, and no call that was counted is forgotten
  pub same_setup : LeavesSetup cell.capacity cell.armed cell.call_count old new
  pub same_slot_room : slots.slot_capacity new ≡ slots.slot_capacity old

-- Nothing was to be done, and nothing was.
pub record IsIdle {C : Type 0} (old new : C) (known known_now : Option RecordView) {T : Type 0}
    (result : Result T StoreFault) : Type 0 where
  pub accepted : OnErr result ⊥
  pub same_record : known_now ≡ known
  pub same_cell : new ≡ old
