-- How the record is read that a cell holds. `cell` and `slots` are the words of the cell, and those of its slots.
use Rattle.std.specs.Prelude.{◌≡◌, ◌⊎◌, ◌↔◌, ℕ, ◌-◌, ◌<◌, ◌≤◌, false, List, Option, Some, None, IsSome, Result, Ok, Err}
use Rattle.std.specs.Prelude.{IfOk, IfErr, OnOk, OnErr, IsErrOf}
use Rattle.sector_disk.specs.Clock.{LeavesOnly}
use Rattle.gate_cell.specs.declared.cell.StableCell.{Ghosts as CellWords}
use Rattle.gate_cell.specs.Setup.{LeavesSetup}
use Rattle.slot_cell.specs.declared.slot_cell.SlotCell.{Ghosts as SlotWords}
use Rattle.slot_cell.specs.Whole.{Whole, slot_in}
use Rattle.ckpt_codec.specs.Common.{ImageView, RecordView, HeaderView, IsHeaderText, IsImageText, spelled_length}
use Rattle.ckpt_codec.specs.HeaderText.{record_with}
use Rattle.ckpt_codec.specs.Faults.{IsHeaderFault, IsImageFault}
use Rattle.ckpt_codec.specs.declared.header.Instance.{Instance}
use Rattle.ckpt_codec.specs.declared.fault.CodecFault.{CodecFault}
use Rattle.ckpt_codec.specs.declared.fault.CodecFault.TheVariants as codec
use Rattle.ckpt_codec.specs.declared.lengths.TheConstants.{MAX_RECORD_BYTES}
use Rattle.ckpt_store.specs.StoreFault.{HasFailures}
use Rattle.ckpt_store.specs.Spelling.{Spells}
use Rattle.ckpt_store.specs.declared.known.Known.{Known}
use Rattle.ckpt_store.specs.declared.fault.StoreFault.{StoreFault}
use Rattle.ckpt_store.specs.declared.fault.StoreFault.TheVariants.{NoMemory, Device, TooLarge, Reopen, Truncated}
use Rattle.ckpt_store.specs.declared.fault.StoreFault.TheVariants.{Version, Malformed, HoldsOther, PastNumber, NotHeld}
use Rattle.ckpt_store.specs.declared.fault.StoreFault.TheVariants.{Unsettled, Spent}

-- a refusal that tells nothing of what the cell holds: there is no memory, the device failed, or the cell has to be
-- reopened
abbrev pub IsOfCell : StoreFault → Type 0
IsOfCell NoMemory = Unit {0}
IsOfCell Device = Unit {0}
IsOfCell Reopen = Unit {0}
IsOfCell TooLarge = ⊥
IsOfCell Truncated = ⊥
IsOfCell Version = ⊥
IsOfCell Malformed = ⊥
IsOfCell HoldsOther = ⊥
IsOfCell PastNumber = ⊥
IsOfCell NotHeld = ⊥
IsOfCell Unsettled = ⊥
IsOfCell Spent = ⊥

-- a refusal of a store that holds a record: there is no memory, or the device failed
abbrev pub IsOfReopening : StoreFault → Type 0
IsOfReopening NoMemory = Unit {0}
IsOfReopening Device = Unit {0}
IsOfReopening TooLarge = ⊥
IsOfReopening Reopen = ⊥
IsOfReopening Truncated = ⊥
IsOfReopening Version = ⊥
IsOfReopening Malformed = ⊥
IsOfReopening HoldsOther = ⊥
IsOfReopening PastNumber = ⊥
IsOfReopening NotHeld = ⊥
IsOfReopening Unsettled = ⊥
IsOfReopening Spent = ⊥

-- ---- what a cell holds, part by part, and why a part is none

-- bytes spell nothing of what is wanted, and this is why: their first offence from the left
abbrev pub IsTextFault : (CodecFault → Type 0) → StoreFault → Type 0
IsTextFault wrong Truncated = wrong codec.Truncated
IsTextFault wrong Version = wrong codec.Version
IsTextFault wrong Malformed = wrong codec.Malformed
IsTextFault wrong NoMemory = ⊥
IsTextFault wrong Device = ⊥
IsTextFault wrong TooLarge = ⊥
IsTextFault wrong Reopen = ⊥
IsTextFault wrong HoldsOther = ⊥
IsTextFault wrong PastNumber = ⊥
IsTextFault wrong NotHeld = ⊥
IsTextFault wrong Unsettled = ⊥
IsTextFault wrong Spent = ⊥

-- the header
abbrev pub IsHeaderOf : Whole → HeaderView → Type 0
IsHeaderOf whole h = (bytes : List ℕ) × (whole.header ≡ Some bytes) × IsHeaderText h bytes

abbrev pub IsHeaderWrong : Whole → StoreFault → Type 0
IsHeaderWrong whole fault = (bytes : List ℕ) × (whole.header ≡ Some bytes) × IsTextFault (IsHeaderFault bytes) fault

-- an image in a slot, like this one where there is one
abbrev pub IsImageOf : Option ImageView → Option (List ℕ) → ImageView → Type 0
IsImageOf like found image = (bytes : List ℕ) × (found ≡ Some bytes) × IsImageText like image bytes

-- a length stands there that doesn't fit, or bytes that spell none
abbrev pub IsImageWrong : Option ImageView → Option (List ℕ) → StoreFault → Type 0
IsImageWrong like found fault = ((found ≡ None) × (fault ≡ TooLarge))
    ⊎ ((bytes : List ℕ) × (found ≡ Some bytes) × IsTextFault (IsImageFault like bytes) fault)

-- a tentative image in the other slot, where the header names one
abbrev pub IsHeldOf : ImageView → Option Instance → Option (List ℕ) → Option ImageView → Type 0
IsHeldOf permanent None found held = held ≡ None
IsHeldOf permanent (Some i) found held = (image : ImageView) × (held ≡ Some image) × IsImageOf (Some permanent) found image

abbrev pub IsHeldWrong : ImageView → Option Instance → Option (List ℕ) → StoreFault → Type 0
IsHeldWrong permanent None found fault = ⊥
IsHeldWrong permanent (Some i) found fault = IsImageWrong (Some permanent) found fault

-- a record of both images that isn't too long
pub record IsShort (found kept : RecordView) : Type 0 where
  pub same : kept ≡ found
  pub short : spelled_length found ≤ MAX_RECORD_BYTES

abbrev pub IsLong : RecordView → StoreFault → Type 0
IsLong found fault = (MAX_RECORD_BYTES < spelled_length found) × (fault ≡ TooLarge)

-- ---- one part, and then what is behind it

abbrev pub OneThen : {X Z : Type 0} → (X → Type 0) → (X → Z → Type 0) → Z → Type 0
OneThen {X} Is Behind z = (x : X) × Is x × Behind x z

abbrev pub WrongThen : {X : Type 0} → (X → Type 0) → (StoreFault → Type 0) → (X → StoreFault → Type 0) → StoreFault
    → Type 0
WrongThen {X} Is Wrong Behind fault = Wrong fault ⊎ ((x : X) × Is x × Behind x fault)

-- behind header and permanent image
abbrev pub IsHeldThen : Whole → HeaderView → ImageView → RecordView → Type 0
IsHeldThen whole h permanent =
    OneThen (IsHeldOf permanent h.tentative (slot_in (1 - h.slot) whole)) (λ held. IsShort (record_with h permanent held))

abbrev pub IsHeldWrongThen : Whole → HeaderView → ImageView → StoreFault → Type 0
IsHeldWrongThen whole h permanent =
    WrongThen (IsHeldOf permanent h.tentative (slot_in (1 - h.slot) whole))
    (IsHeldWrong permanent h.tentative (slot_in (1 - h.slot) whole)) (λ held. IsLong (record_with h permanent held))

-- behind the header
abbrev pub IsImageThen : Whole → HeaderView → RecordView → Type 0
IsImageThen whole h = OneThen (IsImageOf None (slot_in h.slot whole)) (IsHeldThen whole h)

abbrev pub IsImageWrongThen : Whole → HeaderView → StoreFault → Type 0
IsImageWrongThen whole h =
    WrongThen (IsImageOf None (slot_in h.slot whole)) (IsImageWrong None (slot_in h.slot whole))
    (IsHeldWrongThen whole h)

-- the record that a cell holds, read part by part
abbrev pub IsRecordOf : Whole → RecordView → Type 0
IsRecordOf whole = OneThen (IsHeaderOf whole) (IsImageThen whole)

-- why a cell holds none: the first offence, in the header, in the permanent image, and in the tentative one where there
-- is one; a record that is too long comes last
abbrev pub IsWrong : Whole → StoreFault → Type 0
IsWrong whole = WrongThen (IsHeaderOf whole) (IsHeaderWrong whole) (IsImageWrongThen whole)

-- ---- reading

-- this is answered, unless the cell or memory refuses
abbrev pub IsFound : {X : Type 0} → X → Result X StoreFault → Type 0
IsFound kept (Ok found) = found ≡ kept
IsFound kept (Err fault) = IsOfCell fault

-- this refusal is answered, unless the cell or memory refuses
abbrev pub IsRefused : {X : Type 0} → StoreFault → Result X StoreFault → Type 0
IsRefused fault (Ok found) = ⊥
IsRefused fault (Err other) = (other ≡ fault) ⊎ IsOfCell other

-- what was read is this, or there is none, and this is why
pub record IsRead {X : Type 0} (Is : X → Type 0) (Wrong : StoreFault → Type 0) (result : Result X StoreFault) : Type 0
  where
    pub found : IfOk result Is
    pub only : (x : X) → Is x → IsFound x result
    pub cause : IfErr result (λ fault. IsOfCell fault ⊎ Wrong fault)
    pub each : (fault : StoreFault) → Wrong fault → IsRefused fault result

-- Nothing was written.
pub record IsLook {C : Type 0} (cell : CellWords C) (slots : SlotWords C) (old new : C) {X : Type 0}
    (result : Result X StoreFault) : Type 0 where
  -- 23 exactly where the cell wasn't ready, and 20 exactly where the device failed
  pub reopen : IsErrOf result Reopen ↔ (cell.is_ready old ≡ false)
  pub failures : HasFailures (cell.failure_count old) (cell.failure_count new) result
  pub unchanged : IsErrOf result Reopen → new ≡ old
  pub stays_ready : ¬ (IsErrOf result Device) → cell.is_ready new ≡ cell.is_ready old
  -- what the cell holds stays, and a crash at any moment leaves what it might have left before
  pub same_whole : slots.whole new ≡ slots.whole old
  pub same_setup : LeavesSetup cell.capacity cell.armed cell.call_count old new
  pub same_slot_room : slots.slot_capacity new ≡ slots.slot_capacity old
  pub any_moment : LeavesOnly cell.moment slots.left_since_whole old new (slots.may_leave_whole old)

-- the record of what was read
abbrev pub kept_or : Result Known StoreFault → Result RecordView StoreFault
kept_or (Ok known) = Ok known.kept
kept_or (Err fault) = Err fault

-- The record was read that a cell holds, or that was refused. Nothing is written.
pub record IsLoad {C : Type 0} (cell : CellWords C) (slots : SlotWords C) (old new : C)
    (result : Result RecordView StoreFault) : Type 0 where
  -- the cell holds the record that is answered; and the one that it holds is answered
  pub found : IfOk result (λ kept. Spells kept (slots.whole old))
  pub only : (kept : RecordView) → Spells kept (slots.whole old) → IsFound kept result
  -- 22, 30, 31 and 32 exactly where the cell holds no record, by its first offence
  pub cause : IfErr result (λ fault. IsOfCell fault ⊎ IsWrong (slots.whole old) fault)
  pub each : (fault : StoreFault) → IsWrong (slots.whole old) fault → IsRefused fault result
  -- 23 exactly where the cell wasn't ready, and 20 exactly where the device failed
  pub reopen : IsErrOf result Reopen ↔ (cell.is_ready old ≡ false)
  pub failures : HasFailures (cell.failure_count old) (cell.failure_count new) result
  pub unchanged : IsErrOf result Reopen → new ≡ old
  pub stays_ready : ¬ (IsErrOf result Device) → cell.is_ready new ≡ cell.is_ready old
  -- what the cell holds stays, and a crash at any moment leaves what it might have left before
  pub same_whole : slots.whole new ≡ slots.whole old
  pub same_setup : LeavesSetup cell.capacity cell.armed cell.call_count old new
  pub same_slot_room : slots.slot_capacity new ≡ slots.slot_capacity old
  pub any_moment : LeavesOnly cell.moment slots.left_since_whole old new (slots.may_leave_whole old)

-- A cell that holds a record was reopened, in whatever state it was, and its record is known again; or that was
-- refused.
pub record IsReload {C : Type 0} (cell : CellWords C) (slots : SlotWords C) (old new : C)
    (known_now : Option RecordView) {T : Type 0} (result : Result T StoreFault) : Type 0 where
  -- on Ok a record is known, and it is the one that the cell holds; refused, none is
  pub some : OnOk result (IsSome known_now)
  pub only : (kept : RecordView) → Spells kept (slots.whole old) → OnOk result (known_now ≡ Some kept)
  pub none : OnErr result (known_now ≡ None)
  -- it refuses with 1 and 20 alone, and with 20 exactly where the device failed
  pub refusals : IfErr result IsOfReopening
  pub failures : HasFailures (cell.failure_count old) (cell.failure_count new) result
  -- what the cell holds stays, and a crash at any moment leaves what it might have left before
  pub same_whole : slots.whole new ≡ slots.whole old
  pub same_setup : LeavesSetup cell.capacity cell.armed cell.call_count old new
  pub same_slot_room : slots.slot_capacity new ≡ slots.slot_capacity old
  pub any_moment : LeavesOnly cell.moment slots.left_since_whole old new (slots.may_leave_whole old)
