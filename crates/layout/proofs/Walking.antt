-- Numbers that pass a test, gone through one after another.
use Rattle.std.proofs.Common.{◌≡◌, ℕ, suc, ◌+◌, ◌-◌, ◌<◌, Bool, true, false, cond, List, [], ◌∷◌, ◌++◌, map, sym, ap}
use Rattle.std.proofs.Common.{◌∙◌, append_assoc, arith}
use Rattle.protocol.specs.Node.Layout.{numbers_where}

module _ {A : Type 0} (f : ℕ → A) (test : ℕ → Bool) (xs now whole : List A) (first count : ℕ) (below : first < count)
    (so_far : xs ++ map f (numbers_where test first (count - first)) ≡ whole) where
  -- the numbers from this one on
  from_here : (b : Bool) → test first ≡ b
      → numbers_where test first (count - first)
      ≡ cond b (first ∷ numbers_where test (first + 1) (count - (first + 1)))
      (numbers_where test (first + 1) (count - (first + 1)))
  from_here b is =
      let left : count - first ≡ suc (count - (first + 1)) = omega (arith, below) in
      let next : suc first ≡ first + 1 = omega arith in
      ap (numbers_where test first) left
      ∙ (ap (λ (b : Bool). cond b (first ∷ numbers_where test (suc first) (count - (first + 1)))
      (numbers_where test (suc first) (count - (first + 1)))) is
      ∙ ap (λ (n : ℕ). cond b (first ∷ numbers_where test n (count - (first + 1)))
      (numbers_where test n (count - (first + 1)))) next)

  -- one that passes is taken, and any other isn't
  pub taken_next : test first ≡ true → now ≡ xs ++ f first ∷ []
      → now ++ map f (numbers_where test (first + 1) (count - (first + 1))) ≡ whole
  taken_next passes is =
      ap (λ (l : List A). l ++ map f (numbers_where test (first + 1) (count - (first + 1)))) is
      ∙ (append_assoc xs (f first ∷ []) (map f (numbers_where test (first + 1) (count - (first + 1))))
      ∙ (ap (λ (l : List ℕ). xs ++ map f l) (sym (from_here true passes)) ∙ so_far))

  pub passed_next : test first ≡ false → now ≡ xs
      → now ++ map f (numbers_where test (first + 1) (count - (first + 1))) ≡ whole
  passed_next fails is =
      ap (λ (l : List A). l ++ map f (numbers_where test (first + 1) (count - (first + 1)))) is
      ∙ (ap (λ (l : List ℕ). xs ++ map f l) (sym (from_here false fails)) ∙ so_far)
