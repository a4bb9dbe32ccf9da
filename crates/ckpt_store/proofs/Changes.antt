-- A change that the record itself gives cause to refuse.
use Rattle.std.proofs.Common.{◌≡◌, ◌⊎◌, inl, ℕ, Bool, true, false, List, length, Option, Some, None, Result, Err, refl, sym, subst}
use Rattle.std.specs.Prelude.{if◌then◌else◌, nat_le, IsErrOf, option_map}
use Rattle.gate_cell.specs.declared.cell.StableCell.{Ghosts as CellWords}
use Rattle.gate_cell.specs.Setup.{setup_stays}
use Rattle.slot_cell.specs.declared.slot_cell.SlotCell.{Ghosts as SlotWords}
use Rattle.slot_cell.specs.Whole.{Whole}
use Rattle.ckpt_codec.specs.Common.{RecordView, decided_by, MAX_DECISIONS}
use Rattle.ckpt_store.specs.declared.fault.StoreFault.{StoreFault}
use Rattle.ckpt_store.specs.declared.fault.StoreFault.TheVariants.{NoMemory, Device, TooLarge, Reopen, Truncated}
use Rattle.ckpt_store.specs.declared.fault.StoreFault.TheVariants.{Version, Malformed, HoldsOther, PastNumber, NotHeld}
use Rattle.ckpt_store.specs.declared.fault.StoreFault.TheVariants.{Unsettled, Spent}
use Rattle.ckpt_store.specs.Refusals.{first_refusal, is_held, no_refusal, refusal_to_decide, ComesFirst}
use Rattle.ckpt_store.specs.Spelling.{SpellsAny, fits_next, IsLengthTold, IsKept, kept_in, known_as}
use Rattle.ckpt_store.specs.Putting.{IsChange}
use Rattle.ckpt_store.specs.declared.known.Known.{Known}
use Rattle.std.proofs.lemmas.Option.{none-some, same_Some}
use Rattle.ckpt_store.proofs.Puts.{no_call}

-- a refusal for which the record itself gives cause
abbrev pub IsOfRecord : StoreFault → Type 0
IsOfRecord NoMemory = ⊥
IsOfRecord Device = ⊥
IsOfRecord TooLarge = ⊥
IsOfRecord Reopen = Unit {0}
IsOfRecord Truncated = ⊥
IsOfRecord Version = ⊥
IsOfRecord Malformed = ⊥
IsOfRecord HoldsOther = Unit {0}
IsOfRecord PastNumber = Unit {0}
IsOfRecord NotHeld = Unit {0}
IsOfRecord Unsettled = Unit {0}
IsOfRecord Spent = Unit {0}

by_record : (P : StoreFault → Type 0) → P Reopen → P HoldsOther → P PastNumber → P NotHeld → P Unsettled → P Spent
    → (fault : StoreFault) → IsOfRecord fault → P fault
by_record P reopen other past not_held unsettled spent NoMemory is = absurd is
by_record P reopen other past not_held unsettled spent Device is = absurd is
by_record P reopen other past not_held unsettled spent TooLarge is = absurd is
by_record P reopen other past not_held unsettled spent Reopen is = reopen
by_record P reopen other past not_held unsettled spent Truncated is = absurd is
by_record P reopen other past not_held unsettled spent Version is = absurd is
by_record P reopen other past not_held unsettled spent Malformed is = absurd is
by_record P reopen other past not_held unsettled spent HoldsOther is = other
by_record P reopen other past not_held unsettled spent PastNumber is = past
by_record P reopen other past not_held unsettled spent NotHeld is = not_held
by_record P reopen other past not_held unsettled spent Unsettled is = unsettled
by_record P reopen other past not_held unsettled spent Spent is = spent

no_length_told : (fits : Bool) (fault : StoreFault) → IsOfRecord fault → IsLengthTold {T = Unit {0}} fits (Err fault)
no_length_told fits fault is = by_record (λ f. IsLengthTold {T = Unit {0}} fits (Err f)) tt tt tt tt tt tt fault is

no_device : (fault : StoreFault) → IsOfRecord fault → ¬ (IsErrOf {T = Unit {0}} (Err fault) Device)
no_device fault is =
    by_record (λ f. ¬ (IsErrOf {T = Unit {0}} (Err f) Device)) (λ e. cc) (λ e. cc) (λ e. cc) (λ e. cc) (λ e. cc)
    (λ e. cc) fault is

module _ {C : Type 0} (words : CellWords C) (slots : SlotWords C) (cause : RecordView → Option StoreFault)
    (next : RecordView → RecordView) where
  -- a refusal for which there is cause before a put
  pub change_refused : (one : C) (known : Option RecordView) (fault : StoreFault)
      → ((left : Whole) → slots.left_since_whole one (words.moment one) left → slots.may_leave_whole one left)
      → IsOfRecord fault → first_refusal cause known ≡ Some fault
      → IsChange words slots cause next one one known known {T = Unit {0}} (Err fault)
  change_refused one known fault only_now is due = record {
    changed = tt;
    refusals = subst (λ o. ComesFirst {T = Unit {0}} o (Err fault)) (sym due) refl;
    fits = no_length_told (fits_next (slots.slot_capacity one) (option_map next known)) fault is;
    failures = record { device = λ e. absurd (no_device fault is e); otherwise = λ other. refl };
    same_record = λ other. refl;
    same_cell = λ other. refl;
    unknown = λ e. absurd (no_device fault is e);
    one_of_both = λ e. absurd (no_device fault is e);
    any_moment =
        no_call words.moment slots.left_since_whole one
        (λ left. slots.may_leave_whole one left ⊎ (SpellsAny known left ⊎ SpellsAny (option_map next known) left))
        (λ left now. inl (only_now left now));
    same_setup = setup_stays words.capacity words.armed words.call_count one;
    same_slot_room = refl;
  }

  -- a change by a put, where the record itself gives no cause to refuse
  pub change_is : (old new : C) (kept before after : RecordView) (known_now : Option RecordView)
      (result : Result (Unit {0}) StoreFault) → cause kept ≡ None → after ≡ next kept → before ≡ kept
      → IsChange words slots no_refusal (λ k. after) old new (Some before) known_now result
      → IsChange words slots cause next old new (Some kept) known_now result
  change_is old new kept before after known_now result none is was change =
      as_caused result (subst (λ b. IsChange words slots no_refusal (λ k. next kept) old new (Some b) known_now result) was
      (subst (λ a. IsChange words slots no_refusal (λ k. a) old new (Some before) known_now result) is change))
    where
      as_caused : (result : Result (Unit {0}) StoreFault)
          → IsChange words slots no_refusal (λ k. next kept) old new (Some kept) known_now result
          → IsChange words slots cause next old new (Some kept) known_now result
      as_caused result change = record {
        changed = change.changed;
        refusals = subst (λ o. ComesFirst {T = Unit {0}} o result) (sym none) change.refusals;
        fits = change.fits;
        failures = change.failures;
        same_record = change.same_record;
        same_cell = change.same_cell;
        unknown = change.unknown;
        one_of_both = change.one_of_both;
        any_moment = change.any_moment;
        same_setup = change.same_setup;
        same_slot_room = change.same_slot_room;
      }

  -- the same of what is known
  pub change_of : (old new : C) (known : Option Known) (held : Known) (before after : RecordView)
      (known_now : Option RecordView) (result : Result (Unit {0}) StoreFault) → known ≡ Some held
      → cause held.kept ≡ None → after ≡ next held.kept → before ≡ held.kept
      → IsChange words slots no_refusal (λ k. after) old new (Some before) known_now result
      → IsChange words slots cause next old new (kept_in known) known_now result
  change_of old new known held before after known_now result at none is was change =
      subst (λ (o : Option Known). IsChange words slots cause next old new (kept_in o) known_now result) (sym at)
      (change_is old new held.kept before after known_now result none is was change)

  pub refused_of : (one : C) (known : Option Known) (held : Known) (fault : StoreFault) → known ≡ Some held
      → ((left : Whole) → slots.left_since_whole one (words.moment one) left → slots.may_leave_whole one left)
      → IsOfRecord fault → cause held.kept ≡ Some fault
      → IsChange words slots cause next one one (kept_in known) (Some held.kept) {T = Unit {0}} (Err fault)
  refused_of one known held fault at only_now is due =
      subst (λ (o : Option Known). IsChange words slots cause next one one (kept_in o) (Some held.kept)
      {T = Unit {0}} (Err fault)) (sym at) (change_refused one (Some held.kept) fault only_now is due)

-- what a store keeps, where this is known
pub kept_at : {C : Type 0} (words : CellWords C) (slots : SlotWords C) (one : C) (known : Option Known) (held : Known)
    (kept : RecordView) → known ≡ Some held → kept ≡ held.kept
    → IsKept words.is_ready slots.whole slots.may_leave_whole one known
    → IsKept words.is_ready slots.whole slots.may_leave_whole one (Some (known_as kept held.slot))
kept_at words slots one known held kept at is was =
    subst (λ (r : RecordView). IsKept words.is_ready slots.whole slots.may_leave_whole one
    (Some (known_as r held.slot))) (sym is)
    (subst (λ (o : Option Known). IsKept words.is_ready slots.whole slots.may_leave_whole one o) at was)

-- a refusal to decide is of the record
decided_if : (held : Bool) (place : Bool) (fault : StoreFault)
    → (if held then (if place then None else Some Unsettled) else Some NotHeld) ≡ Some fault → IsOfRecord fault
decided_if true true fault is = absurd (none-some fault is)
decided_if true false fault is = subst IsOfRecord (same_Some Unsettled fault is) tt
decided_if false place fault is = subst IsOfRecord (same_Some NotHeld fault is) tt

pub decide_of_record : (number : ℕ) (participants : List ℕ) (kept : RecordView) (fault : StoreFault)
    → refusal_to_decide number participants kept ≡ Some fault → IsOfRecord fault
decide_of_record number participants kept fault is =
    decided_if (is_held kept.node number kept.tentative)
    (nat_le (length (decided_by number participants kept.decisions)) MAX_DECISIONS) fault is
