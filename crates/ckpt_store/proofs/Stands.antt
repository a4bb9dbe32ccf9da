-- After each move of a record that is held, its images stand in the slots.
use Rattle.std.proofs.Common.{◌≡◌, ℕ, ◌-◌, Bool, true, false, List, Option, Some, None, refl, sym, ap, subst}
use Rattle.std.specs.Prelude.{if◌then◌else◌, ◌==◌, nat_le, length}
use Rattle.std.proofs.lemmas.Bool.{false≢true}
use Rattle.std.proofs.lemmas.Option.{none-some}
use Rattle.slot_cell.specs.Whole.{Whole, slot_in}
use Rattle.ckpt_codec.specs.Common.{ImageView, RecordView, Tentative, decided_by, last_image, with_permanent}
use Rattle.ckpt_codec.specs.Common.{without_own, MAX_DECISIONS, AreAllowed, image_fields}
use Rattle.ckpt_store.specs.Refusals.{is_held, refusal_to_decide}
use Rattle.ckpt_store.specs.Spelling.{SpellsAt, StandIn}
use Rattle.ckpt_store.specs.declared.fault.StoreFault.{StoreFault}
use Rattle.ckpt_store.specs.declared.fault.StoreFault.TheVariants.{NotHeld, Unsettled}
use Rattle.ckpt_store.proofs.Parts.{parts_of}
use Rattle.ckpt_store.proofs.Allowed.{allowed_permanent}
use Rattle.ckpt_store.proofs.Spelled.{HeldLies, spelled_is_record, stand_promoted}

held_is_some : (initiator number : ℕ) (held : Option Tentative) → is_held initiator number held ≡ true
    → (t : Tentative) × (held ≡ Some t)
held_is_some initiator number None is = absurd (false≢true is)
held_is_some initiator number (Some t) is = (t, refl)

-- the tentative image becomes permanent
pub promoted_stands : (slot : ℕ) (kept : RecordView) (w : Whole) (initiator number : ℕ) → SpellsAt slot kept w
    → is_held initiator number kept.tentative ≡ true
    → StandIn (1 - slot) (last_image kept.permanent kept.tentative) None w
promoted_stands slot kept w initiator number s is =
    let t = held_is_some initiator number kept.tentative is in
    let last : last_image kept.permanent kept.tentative ≡ t.0.image = ap (last_image kept.permanent) t.1 in
    let allowed =
    (parts_of (with_permanent kept) (allowed_permanent kept (spelled_is_record kept slot w s))).permanent in
    subst (λ (i : ImageView). StandIn (1 - slot) i None w) (sym last)
    (stand_promoted slot kept t.0 w s t.1 (subst (λ (i : ImageView). AreAllowed (image_fields None i)) last allowed))

-- what isn't refused to be decided is held
held_if : (held : Bool) (rest : Option StoreFault) → (if held then rest else Some NotHeld) ≡ None → held ≡ true
held_if true rest is = refl
held_if false rest is = absurd (none-some NotHeld (sym is))

pub held_to_decide : (number : ℕ) (participants : List ℕ) (kept : RecordView)
    → refusal_to_decide number participants kept ≡ None → is_held kept.node number kept.tentative ≡ true
held_to_decide number participants kept fine =
    held_if (is_held kept.node number kept.tentative)
    (if nat_le (length (decided_by number participants kept.decisions)) MAX_DECISIONS then None else Some Unsettled)
    fine

-- that of the node's own goes
unless_own : (permanent : ImageView) (found : Option (List ℕ)) (held : Tentative) (own : Bool)
    → HeldLies permanent (Some held) found → HeldLies permanent (if own then None else Some held) found
unless_own permanent found held true lies = λ u is. absurd (none-some u is)
unless_own permanent found held false lies = lies

without_own_lies : (permanent : ImageView) (found : Option (List ℕ)) (node : ℕ) (t : Option Tentative)
    → HeldLies permanent t found → HeldLies permanent (without_own node t) found
without_own_lies permanent found node None lies = lies
without_own_lies permanent found node (Some held) lies = unless_own permanent found held (held.initiator == node) lies

pub own_stands : (slot : ℕ) (kept : RecordView) (w : Whole) → SpellsAt slot kept w
    → StandIn slot kept.permanent (without_own kept.node kept.tentative) w
own_stands slot kept w s = record {
  one = s.one;
  shows = s.shows;
  holds = without_own_lies kept.permanent (slot_in (1 - slot) w) kept.node kept.tentative s.holds;
}
