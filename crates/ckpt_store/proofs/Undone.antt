-- What takes a tentative image back that was taken gives the record before it.
use Rattle.std.proofs.Common.{◌≡◌, ℕ, zero, suc, ◌<◌, ◌≤◌, Bool, true, false, List, [], ◌∷◌, length, get_or}
use Rattle.std.proofs.Common.{Option, Some, None, refl, sym, ◌∙◌, ap, subst, arith}
use Rattle.std.specs.Prelude.{if◌then◌else◌, ◌==◌, ◌&&◌, nat_le, nat_lt, slice_set, slice_index}
use Rattle.std.proofs.lemmas.Bool.{eqb-true, and_parts, not-false, leb-false, ltb-false}
use Rattle.std.proofs.lemmas.Option.{none-some, same_Some}
use Rattle.std.proofs.lemmas.List.{length-set}
use Rattle.std.proofs.lemmas.List.Elements.{All-head, All-tail}
use Rattle.ckpt_codec.specs.Common.{MAX_COUNT, ImageView, RecordView, Tentative, highest_seen, with_tentative, Field}
use Rattle.ckpt_codec.specs.Common.{IsAllowed, AreAllowed, IsRecord, image_fields, tentative_fields}
use Rattle.ckpt_codec.specs.RecordText.{flag}
use Rattle.ckpt_store.specs.Restoring.{untaken, with_held}
use Rattle.ckpt_store.specs.Undoing.{TakesBack}
use Rattle.ckpt_store.specs.declared.undo.Undo.TheVariants.{Take}
use Rattle.ckpt_store.specs.Refusals.{is_full, is_held, is_other_held, refusal_to_take}
use Rattle.ckpt_store.specs.declared.fault.StoreFault.{StoreFault}
use Rattle.ckpt_store.specs.declared.fault.StoreFault.TheVariants.{HoldsOther, PastNumber, Unsettled, Spent}
use Rattle.ckpt_store.proofs.Parts.{parts_of}
use Rattle.ckpt_store.proofs.Changes.{IsOfRecord}

-- no cause to refuse, one by one
pub record MayTake (initiator number : ℕ) (kept : RecordView) : Type 0 where
  pub no_other : is_other_held initiator number kept.tentative ≡ false
  pub above : highest_seen initiator kept < number
  pub fits : number ≤ MAX_COUNT

-- a choice that gives a refusal or goes on: where it gives none, it went on
goes_on : (b : Bool) (fault : StoreFault) (rest : Option StoreFault) → (if b then Some fault else rest) ≡ None
    → (b ≡ false) × (rest ≡ None)
goes_on true fault rest is = absurd (none-some fault (sym is))
goes_on false fault rest is = (refl, is)

-- where it gives one, that is its own or a later one
its_or_later : (P : StoreFault → Type 0) (b : Bool) (fault told : StoreFault) (rest : Option StoreFault) → P fault
    → (rest ≡ Some told → P told) → (if b then Some fault else rest) ≡ Some told → P told
its_or_later P true fault told rest here later is = subst P (same_Some fault told is) here
its_or_later P false fault told rest here later is = later is

pub may_take : (initiator number : ℕ) (kept : RecordView) → refusal_to_take initiator number kept ≡ None
    → MayTake initiator number kept
may_take initiator number kept is =
    let spent : Option StoreFault = if nat_lt MAX_COUNT number then Some Spent else None in
    let unsettled : Option StoreFault =
    if (initiator == kept.node) && is_full kept.decisions then Some Unsettled else spent in
    let past : Option StoreFault = if nat_le number (highest_seen initiator kept) then Some PastNumber else unsettled in
    let a = goes_on (is_other_held initiator number kept.tentative) HoldsOther past is in
    let b = goes_on (nat_le number (highest_seen initiator kept)) PastNumber unsettled a.1 in
    let c = goes_on ((initiator == kept.node) && is_full kept.decisions) Unsettled spent b.1 in
    let d = goes_on (nat_lt MAX_COUNT number) Spent None c.1 in
    record {
      no_other = a.0;
      above = leb-false number (highest_seen initiator kept) b.0;
      fits =
          ltb-false MAX_COUNT number d.0;
    }

pub take_of_record : (initiator number : ℕ) (kept : RecordView) (fault : StoreFault)
    → refusal_to_take initiator number kept ≡ Some fault → IsOfRecord fault
take_of_record initiator number kept fault is =
    let spent : Option StoreFault = if nat_lt MAX_COUNT number then Some Spent else None in
    let unsettled : Option StoreFault =
    if (initiator == kept.node) && is_full kept.decisions then Some Unsettled else spent in
    let past : Option StoreFault = if nat_le number (highest_seen initiator kept) then Some PastNumber else unsettled in
    its_or_later IsOfRecord (is_other_held initiator number kept.tentative) HoldsOther fault past tt
    (its_or_later IsOfRecord (nat_le number (highest_seen initiator kept)) PastNumber fault unsettled tt
    (its_or_later IsOfRecord ((initiator == kept.node) && is_full kept.decisions) Unsettled fault spent tt
    (its_or_later IsOfRecord (nat_lt MAX_COUNT number) Spent fault None tt (λ e. absurd (none-some fault e))))) is

-- then nothing is held: an instance that is held has the highest number seen of its initiator
none_held : (highest : List ℕ) (permanent : ImageView) (initiator number : ℕ) (held : Option Tentative)
    → AreAllowed (tentative_fields highest permanent held) → is_other_held initiator number held ≡ false
    → get_or highest initiator 0 < number → held ≡ None
none_held highest permanent initiator number None all no_other above = refl
none_held highest permanent initiator number (Some t) all no_other above =
    let first : Field = record { width = 1; allows = λ v. nat_lt v (length highest); value = t.initiator } in
    let second : Field =
    record { width = 8; allows = λ v. nat_le 1 v && (v == slice_index highest t.initiator); value = t.number } in
    let image : List Field = image_fields (Some permanent) t.image in
    let field =
    All-head IsAllowed second image
    (All-tail IsAllowed first (second ∷ image) (All-tail IsAllowed (flag 1) (first ∷ second ∷ image) all)) in
    let is : is_held initiator number (Some t) ≡ true = not-false (is_held initiator number (Some t)) no_other in
    let same = and_parts _ _ is in
    let mine : t.initiator ≡ initiator = eqb-true t.initiator initiator same.0 in
    let its : t.number ≡ number = eqb-true t.number number same.1 in
    let entry : t.number ≡ get_or highest t.initiator 0 =
    eqb-true t.number (get_or highest t.initiator 0) (and_parts _ _ field.1).1 in
    let here : get_or highest t.initiator 0 ≡ get_or highest initiator 0 = ap (λ i. get_or highest i 0) mine in
    absurd (omega (arith, its, entry, here, above))

pub free_to_take : (initiator number : ℕ) (kept : RecordView) → IsRecord kept → MayTake initiator number kept
    → kept.tentative ≡ None
free_to_take initiator number kept all may =
    none_held kept.highest kept.permanent initiator number kept.tentative (parts_of kept all).tentative may.no_other
    may.above

set_back : (xs : List ℕ) (i n : ℕ) → slice_set (slice_set xs i n) i (get_or xs i 0) ≡ xs
set_back [] i n = refl
set_back (x ∷ xs) zero n = refl
set_back (x ∷ xs) (suc i) n = ap (λ ys. x ∷ ys) (set_back xs i n)

untaken_tentative : (initiator number entry : ℕ) (image : ImageView) (kept now : RecordView) → kept.tentative ≡ None
    → now ≡ with_tentative initiator number image kept → entry ≡ highest_seen initiator kept
    → untaken initiator entry now ≡ kept
untaken_tentative initiator number entry image kept now free made before =
    ap (λ r. untaken initiator entry r) made
    ∙ ap (λ e. untaken initiator e (with_tentative initiator number image kept)) before
    ∙ ap (λ hs. record kept { highest = hs; tentative = None }) (set_back kept.highest initiator number)
    ∙ ap (λ t. with_held t kept) (sym free)

pub taken_back : (initiator number entry : ℕ) (image : ImageView) (kept now : RecordView) → IsRecord kept
    → initiator < length kept.highest → refusal_to_take initiator number kept ≡ None
    → now ≡ with_tentative initiator number image kept → entry ≡ highest_seen initiator kept
    → TakesBack kept now (Take initiator entry)
taken_back initiator number entry image kept now all listed fine made before = record {
  applies =
      subst (λ (r : RecordView). initiator < length r.highest) (sym made)
      (omega (arith, length-set kept.highest initiator number, listed));
  gives = untaken_tentative initiator number entry image kept now
      (free_to_take initiator number kept all (may_take initiator number kept fine)) made before;
}
