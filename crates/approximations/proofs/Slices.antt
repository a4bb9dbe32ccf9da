-- What comes next of a list, as two slices of it.
use Rattle.std.proofs.Common.{◌≡◌, ℕ, ◌-◌, List, ℤ, length, take, drop, min, ap, ◌∙◌}
use Rattle.std.proofs.lemmas.List.{take_min, take_rest, drop_min}
use Rattle.approximations.specs.declared.at_hand.TheConstants.{MAX_AT_ONCE}

-- from so many on, or from the end where there are fewer, and of these as many as are given at once
pub next_slice : (items : List ℤ) (got start count : ℕ) → start ≡ min got (length items)
    → count ≡ min MAX_AT_ONCE (length (take (length items - start) (drop start items)))
    → take count (take (length items - start) (drop start items)) ≡ take MAX_AT_ONCE (drop got items)
next_slice items got start count from many =
    let rest : take (length items - start) (drop start items) ≡ drop start items = take_rest items start in
    let behind : drop start items ≡ drop got items = ap (λ (k : ℕ). drop k items) from ∙ drop_min got items in
    let few : count ≡ min MAX_AT_ONCE (length (drop start items)) =
    many ∙ ap (λ (l : List ℤ). min MAX_AT_ONCE (length l)) rest in
    ap (take count) rest
    ∙ (ap (λ (k : ℕ). take k (drop start items)) few
    ∙ (take_min MAX_AT_ONCE (drop start items) ∙ ap (take MAX_AT_ONCE) behind))
