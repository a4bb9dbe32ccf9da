-- What a window holds is of its channel's history, whatever comes to it.
use Rattle.std.proofs.Common.{◌≡◌, ◌⊎◌, inl, inr, ℕ, zero, suc, ◌+◌, ◌-◌, ◌≤◌, Bool, true, false, ltb, cond, List, []}
use Rattle.std.proofs.Common.{◌∷◌, ◌++◌, ℤ, drop, replicate, Option, Some, None, refl, sym, ap, subst, ◌∙◌, arith}
use Rattle.std.specs.Prelude.{slice_get, slice_set}
use Rattle.kahn_net.specs.Common.{IsPrefix}
use Rattle.kahn_net.specs.Laws.Prefixes.{prefix_item}
use Rattle.kahn_net.specs.declared.limits.TheConstants.{MAX_COUNT}
use Rattle.window_link.specs.Windows.{Receiver, advanced, with_held, held_in, held_at, next_held}
use Rattle.window_link.specs.Windows.{window_without, popped_times}

-- each item that a window holds stands in this history at its position
pub record HoldsOf (history : List ℤ) (window : Receiver) : Type 0 where
  pub each : (place : ℕ) (item : ℤ) → held_at window place ≡ Some item
      → slice_get history (window.next + place) ≡ Some item

none_held : (size place : ℕ) (item : ℤ) → (let free : List (Option ℤ) = replicate size None in
    held_in (slice_get free place) ≡ Some item → (P : Type 0) → P)
none_held zero place item is P = absurd (cc)
none_held (suc size) zero item is P = absurd (cc)
none_held (suc size) (suc place) item is P = none_held size place item is P

-- a window that holds nothing
pub holds_none : (history : List ℤ) (epoch next size : ℕ)
    → HoldsOf history (record { epoch = epoch; next = next; held = replicate size None })
holds_none history epoch next size = record { each = λ place item is. none_held size place item is _ }

-- a history that goes on
pub holds_longer : (history later : List ℤ) (window : Receiver) → IsPrefix history later → HoldsOf history window
    → HoldsOf later window
holds_longer history later window longer holds =
    record { each = λ place item is. prefix_item history later (window.next + place) item longer (holds.each place item is) }

-- a free place at the end holds nothing
pub padded : (places : List (Option ℤ)) (place : ℕ)
    → held_in (slice_get (places ++ None ∷ []) place) ≡ held_in (slice_get places place)
padded [] zero = refl
padded [] (suc place) = refl
padded (p ∷ places) zero = refl
padded (p ∷ places) (suc place) = padded places place

-- each place moves up
moved_up : (places : List (Option ℤ)) (place : ℕ) (item : ℤ)
    → held_in (slice_get (drop 1 places ++ None ∷ []) place) ≡ Some item
    → held_in (slice_get places (suc place)) ≡ Some item
moved_up [] zero item is = absurd (cc)
moved_up [] (suc place) item is = absurd (cc)
moved_up (p ∷ places) place item is = sym (padded places place) ∙ is

pub holds_advanced : (history : List ℤ) (window : Receiver) → HoldsOf history window → HoldsOf history (advanced window)
holds_advanced history window holds = record {
  each = λ place item is. (
      let sum : window.next + suc place ≡ window.next + 1 + place = omega arith in
      subst (λ (k : ℕ). slice_get history k ≡ Some item) sum
      (holds.each (suc place) item (moved_up window.held place item is)));
}

-- of the places one has an item now
put_cases : (places : List (Option ℤ)) (at place : ℕ) (item other : ℤ)
    → held_in (slice_get (slice_set places at (Some item)) place) ≡ Some other
    → ((place ≡ at) × (item ≡ other)) ⊎ (held_in (slice_get places place) ≡ Some other)
put_cases [] at place item other is = absurd (cc)
put_cases (p ∷ places) zero zero item other is = inl (refl, cc)
put_cases (p ∷ places) zero (suc place) item other is = inr is
put_cases (p ∷ places) (suc at) zero item other is = inr is
put_cases (p ∷ places) (suc at) (suc place) item other is = further (put_cases places at place item other is)
  where
    further : ((place ≡ at) × (item ≡ other)) ⊎ (held_in (slice_get places place) ≡ Some other)
        → ((suc place ≡ suc at) × (item ≡ other)) ⊎ (held_in (slice_get places place) ≡ Some other)
    further (inl here) = inl (ap suc here.0, here.1)
    further (inr before) = inr before

pub holds_with_held : (history : List ℤ) (window : Receiver) (position : ℕ) (item : ℤ) → window.next ≤ position
    → slice_get history position ≡ Some item → HoldsOf history window → HoldsOf history (with_held window position item)
holds_with_held history window position item low there holds = record {
  each = λ place other is. by_place place other
      (put_cases window.held (position - window.next) place item other is);
}
  where
    by_place : (place : ℕ) (other : ℤ)
        → ((place ≡ position - window.next) × (item ≡ other)) ⊎ (held_in (slice_get window.held place) ≡ Some other)
        → slice_get history (window.next + place) ≡ Some other
    by_place place other (inl here) =
        let at = here.0 in
        let sum : window.next + place ≡ position = omega (arith, at, low) in
        ap (slice_get history) sum ∙ (there ∙ ap Some here.1)
    by_place place other (inr before) = holds.each place other before

-- after a pop
pub holds_without : (history : List ℤ) (window : Receiver) (item : Option ℤ) → HoldsOf history window
    → HoldsOf history (window_without item window)
holds_without history window None holds = holds
holds_without history window (Some item) holds = holds_advanced history window holds

pub holds_popped_times : (history : List ℤ) (times : ℕ) (window : Receiver) → HoldsOf history window
    → HoldsOf history (popped_times times window)
holds_popped_times history zero window holds = holds
holds_popped_times history (suc times) window holds =
    holds_without history (popped_times times window) (next_held (popped_times times window))
    (holds_popped_times history times window holds)

-- what a pop gives is the history's next item
pub popped_belongs : (history : List ℤ) (window : Receiver) (item : ℤ) → next_held window ≡ Some item
    → HoldsOf history window → slice_get history window.next ≡ Some item
popped_belongs history window item is holds = at (ltb window.next MAX_COUNT) is
  where
    at : (below : Bool) → cond below (held_at window 0) None ≡ Some item → slice_get history window.next ≡ Some item
    at false is = absurd (cc)
    at true is =
        let sum : window.next + 0 ≡ window.next = omega arith in
        ap (slice_get history) (sym sum) ∙ holds.each 0 item is
