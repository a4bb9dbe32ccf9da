-- Laws of what holds of two lists place by place, and of each element of one.
use Rattle.std.proofs.Common.{◌≡◌, ℕ, zero, suc, ◌<◌, List, [], ◌∷◌, ◌++◌, length, get_or, Some, refl, ap, subst, arith}
use Rattle.std.specs.Prelude.{Result, Ok, Err, OnErr, slice_get, slice_set}
use Rattle.std.specs.List.{AllByRecursion, AllZip}
use Rattle.protocol.specs.World.Pairs.{AreSameElsewhere}

-- of a list and itself
pub pairs_refl : {A : Type 0} (P : A → A → Type 0) (xs : List A) → ((i : ℕ) (x : A) → slice_get xs i ≡ Some x → P x x)
    → AllZip P xs xs
pairs_refl P [] same = tt
pairs_refl P (x ∷ xs) same = (same 0 x refl, pairs_refl P xs (λ i y is. same (suc i) y is))

-- of a list and the same with one element replaced
pub pairs_set : {A : Type 0} (P : A → A → Type 0) (xs : List A) (k : ℕ) (x y : A)
    → ((i : ℕ) (z : A) → slice_get xs i ≡ Some z → P z z) → k < length xs → x ≡ get_or xs k x → P x y
    → AllZip P xs (slice_set xs k y)
pairs_set P [] k x y same within is p = absurd (omega (arith, within))
pairs_set P (z ∷ xs) zero x y same within is p =
    (subst (λ w. P w y) is p, pairs_refl P xs (λ i w at. same (suc i) w at))
pairs_set P (z ∷ xs) (suc k) x y same within is p = let below : k < length xs = omega (arith, within) in
    (same 0 z refl, pairs_set P xs k x y (λ i w at. same (suc i) w at) below is p)

-- such a list is the same elsewhere
pub elsewhere_set : {A : Type 0} (xs : List A) (k : ℕ) (y : A) → AreSameElsewhere k xs (slice_set xs k y)
elsewhere_set [] k y j other = refl
elsewhere_set (x ∷ xs) zero y zero other = absurd (other refl)
elsewhere_set (x ∷ xs) zero y (suc j) other = refl
elsewhere_set (x ∷ xs) (suc k) y zero other = refl
elsewhere_set (x ∷ xs) (suc k) y (suc j) other = elsewhere_set xs k y j (λ same. other (ap suc same))

-- what a refusal says, carried on
pub on_err_map : {T E : Type 0} {P Q : Type 0} (result : Result T E) → OnErr result P → (P → Q) → OnErr result Q
on_err_map (Ok value) p f = tt
on_err_map (Err e) p f = f p

-- one element more
pub every_more : {A : Type 0} (P : A → Type 0) (xs : List A) (x : A) → AllByRecursion P xs → P x
    → AllByRecursion P (xs ++ x ∷ [])
every_more P [] x all p = (p, tt)
every_more P (y ∷ xs) x all p = (all.0, every_more P xs x all.1 p)
