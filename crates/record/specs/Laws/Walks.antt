-- A walk over a list that changes each element in its turn.
use Rattle.std.proofs.Common.{◌≡◌, ℕ, zero, suc, ◌+◌, ◌<◌, List, [], ◌∷◌, ◌++◌, map, length, take, drop, get_or, Some}
use Rattle.std.proofs.Common.{refl, sym, ap, subst, ◌∙◌, arith}
use Rattle.std.specs.Prelude.{slice_get, slice_set}
use Rattle.std.proofs.lemmas.Option.{slice_get_read}

one_more : {A : Type 0} (f : A → A) (xs : List A) (k : ℕ) (x : A)
    → slice_get (map f (take k xs) ++ drop k xs) k ≡ Some x
    → slice_set (map f (take k xs) ++ drop k xs) k (f x) ≡ map f (take (suc k) xs) ++ drop (suc k) xs
one_more f [] zero x h = absurd (cc)
one_more f [] (suc k) x h = absurd (cc)
one_more f (y ∷ xs) zero x h = let same : y ≡ x = cc in ap (λ z. f z ∷ xs) (sym same)
one_more f (y ∷ xs) (suc k) x h = ap (λ rest. f y ∷ rest) (one_more f xs k x h)

-- one more element is changed
pub changed_next : {A : Type 0} (f : A → A) (items xs : List A) (k : ℕ) (x y : A)
    → items ≡ map f (take k xs) ++ drop k xs → k < length items → x ≡ get_or items k x → y ≡ f x
    → slice_set items k y ≡ map f (take (k + 1) xs) ++ drop (k + 1) xs
changed_next f items xs k x y so_far within here is =
    let there : slice_get items k ≡ Some x = slice_get_read items (length items) k x refl within here in
    let next : suc k ≡ k + 1 = omega arith in
    ap (slice_set items k) is
    ∙ (ap (λ zs. slice_set zs k (f x)) so_far
    ∙ (one_more f xs k x (subst (λ zs. slice_get zs k ≡ Some x) so_far there)
    ∙ ap (λ n. map f (take n xs) ++ drop n xs) next))
