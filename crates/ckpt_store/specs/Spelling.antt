-- What a cell holds and leaves, as records: a header names the slot of the permanent image, and says whether there is a
-- tentative one in the other. Nothing is said of a slot that it doesn't name.
use Rattle.std.specs.Prelude.{◌≡◌, ℕ, ◌-◌, ◌≤◌, nat_le, ◌&&◌, Bool, true, false, List, length, Option, Some, None, is_some}
use Rattle.std.specs.Prelude.{Result, Ok, Err, IsTrue, IsSome}
use Rattle.std.specs.Option.{ForSome}
use Rattle.slot_cell.specs.Whole.{Whole, slot_in}
use Rattle.ckpt_codec.specs.Common.{RecordView, ImageView, Tentative, AreAllowed, image_fields, header_of}
use Rattle.ckpt_codec.specs.Common.{IsHeaderText, IsImageText, image_length, spelled_length}
use Rattle.ckpt_codec.specs.RecordText.{participants}
use Rattle.ckpt_codec.specs.declared.lengths.TheConstants.{MAX_RECORD_BYTES}
use Rattle.ckpt_store.specs.declared.known.Known.{Known}
use Rattle.ckpt_store.specs.declared.fault.StoreFault.{StoreFault}
use Rattle.ckpt_store.specs.declared.fault.StoreFault.TheVariants.{NoMemory, Device, TooLarge, Reopen, Truncated}
use Rattle.ckpt_store.specs.declared.fault.StoreFault.TheVariants.{Version, Malformed, HoldsOther, PastNumber, NotHeld}
use Rattle.ckpt_store.specs.declared.fault.StoreFault.TheVariants.{Unsettled, Spent}

-- bytes stand there, and they are such
pub record Lies (Is : List ℕ → Type 0) (found : Option (List ℕ)) : Type 0 where
  pub there : IsSome found
  pub is : ForSome found Is

-- What was left is this record, with its permanent image in this slot, and its tentative one, where there is one, in the
-- other. It isn't longer than a record may be.
pub record SpellsAt (slot : ℕ) (kept : RecordView) (left : Whole) : Type 0 where
  pub one : slot ≤ 1
  pub says : Lies (IsHeaderText (header_of slot kept)) left.header
  pub shows : Lies (IsImageText None kept.permanent) (slot_in slot left)
  pub holds : ForSome kept.tentative
      (λ (t : Tentative). Lies (IsImageText (Some kept.permanent) t.image) (slot_in (1 - slot) left))
  pub short : spelled_length kept ≤ MAX_RECORD_BYTES

-- what a crash left of header and slots is this record
abbrev pub Spells : RecordView → Whole → Type 0
Spells kept left = (slot : ℕ) × SpellsAt slot kept left

-- what was left is some record
abbrev pub SpellsSome : Whole → Type 0
SpellsSome left = ∥ ((kept : RecordView) × Spells kept left) ∥₁

-- what was left is the record, if there is one
abbrev pub SpellsAny : Option RecordView → Whole → Type 0
SpellsAny None left = ⊥
SpellsAny (Some kept) left = Spells kept left

-- Images stand in the slots, the permanent one in this: so a header that says this makes them a record.
pub record StandIn (slot : ℕ) (permanent : ImageView) (tentative : Option Tentative) (left : Whole) : Type 0 where
  pub one : slot ≤ 1
  pub shows : Lies (IsImageText None permanent) (slot_in slot left)
  pub holds : ForSome tentative
      (λ (t : Tentative). Lies (IsImageText (Some permanent) t.image) (slot_in (1 - slot) left))

-- so many bytes aren't more than a record's spelling may have
abbrev pub is_short : ℕ → Bool
is_short n = nat_le n MAX_RECORD_BYTES

-- a tentative image, if there is one, is no longer than a slot's room
abbrev pub held_fits : ℕ → Option Tentative → Bool
held_fits room None = true
held_fits room (Some t) = nat_le (image_length t.image) room

-- each image of the record is no longer than a slot's room
abbrev pub images_fit : ℕ → RecordView → Bool
images_fit room kept = nat_le (image_length kept.permanent) room && held_fits room kept.tentative

-- the record's spelling isn't longer than one may be, and its images fit slots of this room; its header always fits
abbrev pub fits_in : ℕ → RecordView → Bool
fits_in room kept = is_short (spelled_length kept) && images_fit room kept

-- the same of a record, if there is one
abbrev pub fits_next : ℕ → Option RecordView → Bool
fits_next room None = false
fits_next room (Some kept) = fits_in room kept

-- `TooLarge` is told exactly of a record that doesn't fit, before memory is taken for it; the record's own refusals
-- come before that
abbrev pub IsLengthTold : {T : Type 0} → Bool → Result T StoreFault → Type 0
IsLengthTold fits (Ok x) = IsTrue fits
IsLengthTold fits (Err TooLarge) = fits ≡ false
IsLengthTold fits (Err Device) = IsTrue fits
IsLengthTold fits (Err NoMemory) = IsTrue fits
IsLengthTold fits (Err Reopen) = Unit {0}
IsLengthTold fits (Err Truncated) = Unit {0}
IsLengthTold fits (Err Version) = Unit {0}
IsLengthTold fits (Err Malformed) = Unit {0}
IsLengthTold fits (Err HoldsOther) = Unit {0}
IsLengthTold fits (Err PastNumber) = Unit {0}
IsLengthTold fits (Err NotHeld) = Unit {0}
IsLengthTold fits (Err Unsettled) = Unit {0}
IsLengthTold fits (Err Spent) = Unit {0}

-- an image that may be written beside this permanent one: it has the same processes, numbers of variables, and ends of
-- channels
pub record IsLike (permanent image : ImageView) : Type 0 where
  pub allowed : AreAllowed (image_fields (Some permanent) image)

-- the nodes that a decision of this record may name: none twice, ascending, each one of its nodes and not the record's
-- own
pub record AreOthers (kept : RecordView) (nodes : List ℕ) : Type 0 where
  pub allowed : AreAllowed (participants kept.node (length kept.highest) 0 nodes)

-- the record of what is known
abbrev pub kept_in : Option Known → Option RecordView
kept_in None = None
kept_in (Some known) = Some known.kept

abbrev pub known_as : RecordView → ℕ → Known
known_as kept slot = record { kept = kept; slot = slot }

-- What a store keeps: whatever a crash may leave of its cell is a record, and a record that is known is what the cell,
-- which is ready, holds at the slot that is known. `is_ready`, `whole` and `may_leave` are the cell's words.
pub record IsKept {C : Type 0} (is_ready : C → Bool) (whole : C → Whole) (may_leave : C → Whole → Type 0)
    (cell : C) (known : Option Known) : Type 0 where
  pub leaves : (left : Whole) → may_leave cell left → SpellsSome left
  pub ready : IsTrue (is_some known) → IsTrue (is_ready cell)
  pub holds : ForSome known (λ (known : Known). SpellsAt known.slot known.kept (whole cell))
