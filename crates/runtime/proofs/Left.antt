-- Whether each output has so many items.
use Rattle.std.proofs.Common.{◌≡◌, ℕ, suc, ◌+◌, ◌<◌, Bool, true, false, ◌&&◌, List, ℤ, ◌∷◌, length, map, drop, get_or, refl, sym, ap, ◌∙◌, arith}
use Rattle.std.specs.Prelude.{if◌then◌else◌}
use Rattle.std.specs.List.{list_all}
use Rattle.std.proofs.Math.Seq.{drop-cons}
use Rattle.protocol.specs.Node.Common.{Channel}
use Rattle.protocol.specs.World.Common.{goes_outside, output_channels}

module _ (f : ℕ → List ℤ) (test : List ℤ → Bool) where
  one_passed : (b : Bool) (number : ℕ) (rest : List ℕ) (passes : Bool) → passes ≡ (if b then test (f number) else true)
      → passes ≡ true
      → list_all test (map f (if b then number ∷ rest else rest)) ≡ list_all test (map f rest)
  one_passed true number rest passes is yes_it_is =
      ap (λ (p : Bool). p && list_all test (map f rest)) (sym is ∙ yes_it_is)
  one_passed false number rest passes is yes_it_is = refl

  here : (channels : List Channel) (k : ℕ) (d : Channel) → k < length channels
      → list_all test (map f (output_channels k (drop k channels)))
      ≡ list_all test
      (map f (if goes_outside (get_or channels k d).consumer then k
      ∷ output_channels (suc k) (drop (suc k) channels) else output_channels (suc k) (drop (suc k) channels)))
  here channels k d within =
      ap (λ (l : List Channel). list_all test (map f (output_channels k l))) (drop-cons channels k d within)

  -- one more channel was looked at, and has them
  pub all_next : (channels : List Channel) (k : ℕ) (d : Channel) (passes whole : Bool) → k < length channels
      → list_all test (map f (output_channels k (drop k channels))) ≡ whole
      → passes ≡ (if goes_outside (get_or channels k d).consumer then test (f k) else true) → passes ≡ true
      → list_all test (map f (output_channels (k + 1) (drop (k + 1) channels))) ≡ whole
  all_next channels k d passes whole within so_far is yes_it_is =
      let next : suc k ≡ k + 1 = omega arith in
      ap (λ (n : ℕ). list_all test (map f (output_channels n (drop n channels)))) (sym next)
      ∙ (sym (one_passed (goes_outside (get_or channels k d).consumer) k
      (output_channels (suc k) (drop (suc k) channels)) passes is yes_it_is)
      ∙ (sym (here channels k d within) ∙ so_far))
