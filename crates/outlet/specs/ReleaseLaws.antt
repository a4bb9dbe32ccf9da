-- Laws of released items, one after another.
use Rattle.std.proofs.Common.{◌≡◌, ◌⊎◌, inl, inr, ℕ, zero, suc, ◌+◌, ◌-◌, ◌<◌, ◌≤◌, List, [], ◌∷◌, ◌++◌, ℤ, pos, length}
use Rattle.std.proofs.Common.{take, drop, get_or, Option, Some, None, arith, rules, sym, ◌∙◌, ap, append-nil}
use Rattle.std.specs.Prelude.{slice_get}
use Rattle.std.specs.Option.{option_to_list}
use Rattle.std.proofs.lemmas.List.{take_more, get_or-drop, length-drop}
use Rattle.std.proofs.lemmas.Option.{slice_get-get_or, get_or_from_slice_get, slice_get_within}
use Rattle.retained.specs.LogState.{LogState, log_end, item_at, items_at}
use Rattle.outlet.specs.Released.{released_items, CanRelease, TookSomeOrAll}

-- from its base on a log's items are those of its list
in_its_list : (log : LogState) (position : ℕ) → log.base ≤ position
    → item_at log position ≡ slice_get log.items (position - log.base)
in_its_list log position le = search rules

-- the item behind n items from the k-th one on
next : (items : List ℤ) (k n place : ℕ) (item : ℤ) → k + n ≡ place → slice_get items place ≡ Some item
    → take (n + 1) (drop k items) ≡ take n (drop k items) ++ item ∷ []
next items k n place item e there =
    let within : place < length items = slice_get_within items place item there in
    let lt : n < length (drop k items) = omega (arith, length-drop k items) in
    let is : get_or (drop k items) n (pos 0) ≡ item
    = get_or-drop k items n (pos 0) ∙ ap (λ i. get_or items i (pos 0)) e
    ∙ get_or_from_slice_get items place item (pos 0) there
    in take_more (drop k items) n (pos 0) lt ∙ ap (λ (x : ℤ). take n (drop k items) ++ x ∷ []) is

-- an item is added at the end of those released
pub one_more : (log : LogState) (len position : ℕ) → log.base ≤ len → len ≤ position → position < log_end log
    → released_items log len (position + 1) ≡ released_items log len position ++ items_at log position
one_more log len position no_gap le within =
    let one_later : position + 1 - len ≡ position - len + 1 = omega arith in
    let place : (len - log.base) + (position - len) ≡ position - log.base = omega arith in
    let from_base : log.base ≤ position = omega arith in
    let inside : position - log.base < length log.items = omega arith in
    let there : slice_get log.items (position - log.base) ≡ Some (get_or log.items (position - log.base) (pos 0))
    = slice_get-get_or log.items (position - log.base) (pos 0) inside
    in let found : items_at log position ≡ get_or log.items (position - log.base) (pos 0) ∷ []
    = ap option_to_list (in_its_list log position from_base ∙ there)
    in ap (λ (n : ℕ). take n (drop (len - log.base) log.items)) one_later
    ∙ next log.items (len - log.base) (position - len) (position - log.base)
    (get_or log.items (position - log.base) (pos 0)) place there
    ∙ ap (λ (items : List ℤ). released_items log len position ++ items) (sym found)

-- the item at a position is what is released up to the next one
pub released_one : (log : LogState) (len : ℕ) → CanRelease log len (len + 1)
    → released_items log len (len + 1) ≡ items_at log len
released_one log len can =
    let le : len ≤ len = omega arith in
    let within : len < log_end log = omega (arith, can.within) in
    let none : len - len ≡ 0 = omega arith in
    one_more log len len can.no_gap le within
    ∙ ap (λ (n : ℕ). take n (drop (len - log.base) log.items) ++ items_at log len) none

-- an outlet that took a part of one item took it or didn't
pub took_or_not : (item : Option ℤ) (old new : List ℤ) → TookSomeOrAll (option_to_list item) old new
    → (new ≡ old) ⊎ (new ≡ old ++ option_to_list item)
took_or_not None old new took = absurd (omega (arith, took.something))
took_or_not (Some x) old new took = at took.count took.at_most_all took.taken
  where
    at : (count : ℕ) → count ≤ 1 → new ≡ old ++ take count (x ∷ []) → (new ≡ old) ⊎ (new ≡ old ++ x ∷ [])
    at zero few is = inl (is ∙ append-nil old)
    at (suc zero) few is = inr is
    at (suc (suc count)) few is = absurd (omega (arith, few))
