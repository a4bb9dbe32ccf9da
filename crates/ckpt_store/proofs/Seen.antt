-- The record that a store shows in every state is the one that its cell holds.
use Rattle.std.proofs.Common.{◌≡◌, ℕ, ◌-◌, List, Option, Some, None, refl, ◌∙◌, ap, subst}
use Rattle.std.specs.Prelude.{is_some, IsTrue}
use Rattle.std.proofs.lemmas.Option.{same_Some, none-some}
use Rattle.gate_cell.specs.declared.cell.StableCell.{Ghosts as CellWords}
use Rattle.slot_cell.specs.Whole.{Whole, slot_in}
use Rattle.slot_cell.specs.declared.slot_cell.SlotCell.{Ghosts as SlotWords}
use Rattle.ckpt_codec.specs.Common.{ImageView, RecordView, Tentative, header_of}
use Rattle.ckpt_codec.specs.HeaderText.{instance_of, tentative_with, IsTentativeText}
use Rattle.ckpt_codec.specs.Reading.{whole_image_at}
use Rattle.ckpt_codec.proofs.Headers.{header_again, image_again}
use Rattle.ckpt_store.proofs.Spelled.{HoldsFor, parts_in}
use Rattle.ckpt_store.specs.Spelling.{SpellsAt, Spells, kept_in}
use Rattle.ckpt_store.specs.StoreView.{read_or_none, image_spelled, header_spelled, record_beside}
use Rattle.ckpt_store.specs.StoreView.{record_behind, record_spelled, record_in, known_in}
use Rattle.ckpt_store.specs.declared.known.Known.{Known}
use Rattle.ckpt_store.specs.declared.store.Store.{Store}

held_is : (permanent : ImageView) (t : Option Tentative) (found : Option (List ℕ)) (bytes : List ℕ)
    → HoldsFor t found bytes → IsTentativeText permanent t bytes
    → tentative_with (instance_of t) (image_spelled (Some permanent) found) ≡ t
unfolding whole_image_at
held_is permanent None found bytes is text = refl
held_is permanent (Some t) found bytes is text =
    ap (λ o. tentative_with (instance_of (Some t)) (image_spelled (Some permanent) o)) is
    ∙ ap (λ r. tentative_with (instance_of (Some t)) (read_or_none r)) (image_again (Some permanent) t.image bytes text)

-- what is held is one record
pub spelled_is : (kept : RecordView) (w : Whole) → Spells kept w → record_spelled w ≡ kept
unfolding whole_image_at
spelled_is kept w is =
    let slot = is.0 in
    let s = parts_in kept slot w is.1 in
    let h = header_of slot kept in
    ap (λ o. record_behind w (header_spelled o)) s.says
    ∙ (ap (λ r. record_behind w (read_or_none r)) (header_again h s.header s.apart.says)
    ∙ (ap (λ o. record_beside w h (image_spelled None o)) s.shows
    ∙ (ap (λ r. record_beside w h (read_or_none r)) (image_again None kept.permanent s.first s.apart.shows)
    ∙ ap (λ (t : Option Tentative). record kept { tentative = t })
    (held_is kept.permanent kept.tentative (slot_in (1 - slot) w) s.second s.holds s.apart.holds))))

-- the record of what is known
pub known_of : (known : Option Known) (kept : RecordView) → kept_in known ≡ Some kept
    → (k : Known) × (known ≡ Some k) × (k.kept ≡ kept)
known_of None kept is = absurd (none-some kept is)
known_of (Some k) kept is = (k, refl, same_Some k.kept kept is)

module _ {C : Type 0} (cell : CellWords C) (slots : SlotWords C) where
  -- the record that is known is held
  pub known_held : (store : Store C slots cell) (kept : RecordView) → known_in store ≡ Some kept
      → Spells kept (slots.whole store.cell)
  known_held store kept is =
      let known = known_of store.known kept is in (
        known.0.slot,
        subst (λ (k : RecordView). SpellsAt known.0.slot k (slots.whole store.cell)) known.2
            (store.kept.holds known.0 known.1),
      )

  -- and it is the one that is shown
  pub known_is : (store : Store C slots cell) (kept : RecordView) → known_in store ≡ Some kept
      → record_in store ≡ kept
  known_is store kept is = spelled_is kept (slots.whole store.cell) (known_held store kept is)

  -- and then the cell is ready
  pub ready_known : (store : Store C slots cell) (kept : RecordView) → known_in store ≡ Some kept
      → IsTrue (cell.is_ready store.cell)
  ready_known store kept is =
      store.kept.ready (ap (λ (o : Option Known). is_some o) (known_of store.known kept is).1)
