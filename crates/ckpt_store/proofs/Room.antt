-- A record that a store has fits its cell, and so does what becomes of it by a move that lets an image go, or none.
use Rattle.std.proofs.Common.{◌≡◌, ⊎_elim, ℕ, ◌-◌, ◌≤◌, Bool, true, false, List, [], length, Option, Some, None, refl, sym, ◌∙◌, ap, arith}
use Rattle.std.specs.Prelude.{if◌then◌else◌, ◌==◌, nat_le}
use Rattle.std.proofs.lemmas.Bool.{and_parts, and_from, leb-true, le-leb, cases_Bool, true≢false}
use Rattle.std.proofs.Math.Logic.{∥∥₁_elim}
use Rattle.gate_cell.specs.declared.cell.StableCell.{Ghosts as CellWords}
use Rattle.slot_cell.specs.Whole.{Whole, slot_in}
use Rattle.slot_cell.specs.declared.slot_cell.SlotCell.{Ghosts as SlotWords}
use Rattle.ckpt_codec.specs.Common.{ImageView, RecordView, Tentative, last_image, with_permanent, with_decision}
use Rattle.ckpt_codec.specs.Common.{with_epoch, without_own, IsImageText, image_length, spelled_length}
use Rattle.ckpt_codec.specs.HeaderText.{IsTentativeText}
use Rattle.ckpt_codec.specs.declared.lengths.TheConstants.{MAX_RECORD_BYTES}
use Rattle.ckpt_codec.proofs.Sizes.{permanent_is_no_longer, decision_is_no_longer, epoch_is_no_longer}
use Rattle.ckpt_codec.proofs.Joined.{image_text_long}
use Rattle.ckpt_store.specs.Spelling.{Spells, fits_in, held_fits, images_fit, is_short}
use Rattle.ckpt_store.specs.StoreView.{cell_in, record_in, Holds}
use Rattle.ckpt_store.specs.declared.store.Store.{Store}
use Rattle.ckpt_store.proofs.Seen.{spelled_is}
use Rattle.ckpt_store.proofs.Spelled.{HoldsFor, parts_in}

-- a record that isn't too long, and whose images fit
pub fits_so : (room : ℕ) (kept : RecordView) → spelled_length kept ≤ MAX_RECORD_BYTES
    → nat_le (image_length kept.permanent) room ≡ true → held_fits room kept.tentative ≡ true
    → fits_in room kept ≡ true
fits_so room kept short permanent held =
    and_from (is_short (spelled_length kept)) (images_fit room kept)
    (le-leb (spelled_length kept) MAX_RECORD_BYTES short)
    (and_from (nat_le (image_length kept.permanent) room) (held_fits room kept.tentative) permanent held)

last_fits : (room : ℕ) (permanent : ImageView) (t : Option Tentative) → nat_le (image_length permanent) room ≡ true
    → held_fits room t ≡ true → nat_le (image_length (last_image permanent t)) room ≡ true
last_fits room permanent None fits held = fits
last_fits room permanent (Some t) fits held = held

unless_own_fits : (room : ℕ) (own : Bool) (t : Tentative) → held_fits room (Some t) ≡ true
    → held_fits room (if own then None else Some t) ≡ true
unless_own_fits room true t fits = refl
unless_own_fits room false t fits = fits

own_fits : (room node : ℕ) (t : Option Tentative) → held_fits room t ≡ true → held_fits room (without_own node t) ≡ true
own_fits room node None fits = refl
own_fits room node (Some t) fits = unless_own_fits room (t.initiator == node) t fits

module _ (room : ℕ) (kept : RecordView) (fits : fits_in room kept ≡ true) where
  short : spelled_length kept ≤ MAX_RECORD_BYTES
  short = leb-true (spelled_length kept) MAX_RECORD_BYTES
      (and_parts (is_short (spelled_length kept)) (images_fit room kept) fits).0

  both : (nat_le (image_length kept.permanent) room ≡ true) × (held_fits room kept.tentative ≡ true)
  both = and_parts (nat_le (image_length kept.permanent) room) (held_fits room kept.tentative)
      (and_parts (is_short (spelled_length kept)) (images_fit room kept) fits).1

  pub permanent_fits : fits_in room (with_permanent kept) ≡ true
  permanent_fits =
      let no_more = permanent_is_no_longer kept in
      let few = short in
      fits_so room (with_permanent kept) (omega (arith, no_more, few))
      (last_fits room kept.permanent kept.tentative both.0 both.1) refl

  pub decision_fits : (number : ℕ) → fits_in room (with_decision number [] kept) ≡ true
  decision_fits number =
      let no_more = decision_is_no_longer number kept in
      let few = short in
      fits_so room (with_decision number [] kept) (omega (arith, no_more, few))
      (last_fits room kept.permanent kept.tentative both.0 both.1) refl

  pub epoch_fits : fits_in room (with_epoch kept) ≡ true
  epoch_fits =
      let no_more = epoch_is_no_longer kept in
      let few = short in
      fits_so room (with_epoch kept) (omega (arith, no_more, few)) both.0
      (own_fits room kept.node kept.tentative both.1)

-- bytes of an image that aren't more than the room
image_fits : (room : ℕ) (like : Option ImageView) (image : ImageView) (bytes : List ℕ) → IsImageText like image bytes
    → length bytes ≤ room → nat_le (image_length image) room ≡ true
image_fits room like image bytes text fits =
    let long : length bytes ≡ image_length image = image_text_long like image bytes text in
    le-leb (image_length image) room (omega (arith, long, fits))

held_fits_so : (room : ℕ) (permanent : ImageView) (t : Option Tentative) (found : Option (List ℕ)) (bytes : List ℕ)
    → HoldsFor t found bytes → IsTentativeText permanent t bytes
    → ((bytes : List ℕ) → found ≡ Some bytes → length bytes ≤ room) → held_fits room t ≡ true
held_fits_so room permanent None found bytes there text fits = refl
held_fits_so room permanent (Some t) found bytes there text fits =
    image_fits room (Some permanent) t.image bytes text (fits bytes there)

-- What a cell leaves in a slot fits it. So a record that a crash may leave fits.
module _ {C : Type 0} (words : CellWords C) (slots : SlotWords C)
    (fits_slot : (cell : C) (left : Whole) (slot : ℕ) (bytes : List ℕ) → slots.may_leave_whole cell left
    → slot_in slot left ≡ Some bytes → length bytes ≤ slots.slot_capacity cell) where
  pub left_fits : (cell : C) (kept : RecordView) (left : Whole) → slots.may_leave_whole cell left → Spells kept left
      → fits_in (slots.slot_capacity cell) kept ≡ true
  left_fits cell kept left might is =
      let slot = is.0 in
      let s = parts_in kept slot left is.1 in
      fits_so (slots.slot_capacity cell) kept is.1.short
      (image_fits (slots.slot_capacity cell) None kept.permanent s.first s.apart.shows
      (fits_slot cell left slot s.first might s.shows))
      (held_fits_so (slots.slot_capacity cell) kept.permanent kept.tentative (slot_in (1 - slot) left) s.second s.holds
      s.apart.holds (λ bytes there. fits_slot cell left (1 - slot) bytes might there))

  module _ (may_stay : (cell : C) → slots.may_leave_whole cell (slots.whole cell)) (store : Store C slots words) where
    -- the record that its cell holds
    pub holds_fits : (kept : RecordView) → Holds store kept → fits_in (slots.slot_capacity (cell_in store)) kept ≡ true
    holds_fits kept is = left_fits store.cell kept (slots.whole store.cell) (may_stay store.cell) is

    -- the record that it shows, in every state
    pub record_fits : fits_in (slots.slot_capacity (cell_in store)) (record_in store) ≡ true
    record_fits = ⊎_elim (λ fits. fits)
        (λ no. absurd
        (∥∥₁_elim (store.kept.leaves (slots.whole store.cell) (may_stay store.cell)) (λ x y. absurd x)
        (λ e. true≢false
        (sym (holds_fits e.0 e.1)
        ∙ ap (λ r. fits_in (slots.slot_capacity store.cell) r) (sym (spelled_is e.0 (slots.whole store.cell) e.1))
        ∙ no))))
        (cases_Bool (fits_in (slots.slot_capacity store.cell) (record_in store)))
