use Rattle.std.proofs.Common.{◌≡◌, ℕ, ◌-◌, List, ℤ, length, take, drop, ap, ◌∙◌}
use Rattle.std.specs.Prelude.{min}
use Rattle.std.proofs.lemmas.List.{take_min, take_rest, drop_min}
use Rattle.rerun.specs.declared.handing.TheConstants.{MAX_AT_ONCE}
use Rattle.rerun.proofs.handing.behind.Goals as goal

-- a slice from a place on, and one of that from its beginning
two_slices : (items : List ℤ) (got start count : ℕ) → start ≡ min got (length items)
    → count ≡ min MAX_AT_ONCE (length (take (length items - start) (drop start items)))
    → take count (take (length items - start) (drop start items)) ≡ take MAX_AT_ONCE (drop got items)
two_slices items got start count from few =
    let rest : take (length items - start) (drop start items) ≡ drop got items =
    take_rest items start ∙ (ap (λ (k : ℕ). drop k items) from ∙ drop_min got items) in
    ap (take count) rest
    ∙ (ap (λ (k : ℕ). take k (drop got items)) (few ∙ ap (λ (l : List ℤ). min MAX_AT_ONCE (length l)) rest)
    ∙ take_min MAX_AT_ONCE (drop got items))

pub returns : goal.returns
returns c = two_slices _ _ _ _ c.min-start.ensures c.min.ensures
