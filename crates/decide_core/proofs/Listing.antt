-- Lists that are gone through one after another.
use Rattle.std.proofs.Common.{◌≡◌, ℕ, zero, suc, ◌+◌, ◌-◌, ◌<◌, List, [], ◌∷◌, ◌++◌, length, map, refl, sym}
use Rattle.std.proofs.Common.{ap, ◌∙◌, append_assoc, arith}
use Rattle.std.proofs.lemmas.List.{map-append}
use Rattle.protocol.specs.Node.Needs.{each_from}

-- what a function gives of a number goes last of what is listed
pub listed_next : {A B : Type 0} (f : ℕ → B) (view : A → B) (xs now : List A) (whole : List B) (x : A) (first count : ℕ)
    → first < count → map view xs ++ each_from f first (count - first) ≡ whole → view x ≡ f first → now ≡ xs ++ x ∷ []
    → map view now ++ each_from f (first + 1) (count - (first + 1)) ≡ whole
listed_next f view xs now whole x first count below so_far is same =
    ap (λ l. map view l ++ each_from f (first + 1) (count - (first + 1))) same
    ∙ (ap (λ l. l ++ each_from f (first + 1) (count - (first + 1))) (map-append view xs (x ∷ []))
    ∙ (append_assoc (map view xs) (view x ∷ []) (each_from f (first + 1) (count - (first + 1)))
    ∙ (ap (λ l. map view xs ++ l) (sym from_here) ∙ so_far)))
  where
    from_here : each_from f first (count - first) ≡ view x ∷ each_from f (first + 1) (count - (first + 1))
    from_here =
        let left : count - first ≡ suc (count - (first + 1)) = omega (arith, below) in
        let next : suc first ≡ first + 1 = omega arith in
        ap (each_from f first) left
        ∙ (ap (λ n. f first ∷ each_from f n (count - (first + 1))) next
        ∙ ap (λ y. y ∷ each_from f (first + 1) (count - (first + 1))) (sym is))

-- numbers as they are
pub map_same : (xs : List ℕ) → map (λ (n : ℕ). n) xs ≡ xs
map_same [] = refl
map_same (x ∷ xs) = ap (λ (l : List ℕ). x ∷ l) (map_same xs)

pub each_length : {A : Type 0} (f : ℕ → A) (first count : ℕ) → length (each_from f first count) ≡ count
each_length f first zero = refl
each_length f first (suc count) = ap suc (each_length f (suc first) count)
