-- How a process stands beside others that puts.
use Rattle.std.proofs.Common.{◌≡◌, ℕ, ◌+◌, ◌<◌, Bool, true, false, List, ◌∷◌, Some, find, length, get_or, drop, cond, sym, ap}
use Rattle.std.proofs.Common.{◌∙◌, drop-cons, add-one}
use Rattle.protocol.specs.Node.Common.{Network, RunningNode}
use Rattle.protocol.specs.World.Common.{OutputView, StationView}
use Rattle.protocol.specs.World.Stances.{beside_others, is_leaving}
use Rattle.protocol.specs.declared.stance.Stance.{Stance}
use Rattle.protocol.specs.declared.stance.Stance.TheVariants.{GoesOn, Held, Full}

module _ (net : Network) (stations : List StationView) (node : RunningNode) (outputs : List OutputView) (channel : ℕ)
    (stance : Stance) (leaves known : Bool) (is : leaves ≡ is_leaving net stations node outputs channel)
    (here : leaves ≡ known) where
  pub held_beside : stance ≡ Held channel
      → cond known GoesOn (Held channel) ≡ beside_others net stations node outputs stance
  held_beside held =
      sym
      (ap (beside_others net stations node outputs) held
      ∙ ap (λ (b : Bool). cond b GoesOn (Held channel)) (sym is ∙ here))

  pub full_beside : stance ≡ Full channel
      → cond known GoesOn (Full channel) ≡ beside_others net stations node outputs stance
  full_beside full =
      sym
      (ap (beside_others net stations node outputs) full
      ∙ ap (λ (b : Bool). cond b GoesOn (Full channel)) (sym is ∙ here))

-- ---- a search for the inbox of a channel

-- the rest of a list from a place on, where this stands there
rest_from : {A : Type 0} (xs : List A) (i : ℕ) (x : A) → i < length xs → x ≡ get_or xs i x
    → drop i xs ≡ x ∷ drop (i + 1) xs
rest_from xs i x within is = drop-cons xs i x within ∙ rw (add-one, sym is)

-- it isn't the one that is looked for
pub looked_on : {A : Type 0} (test : A → Bool) (xs : List A) (i : ℕ) (x : A) → i < length xs → x ≡ get_or xs i x
    → test x ≡ false → find test (drop i xs) ≡ find test xs → find test (drop (i + 1) xs) ≡ find test xs
looked_on test xs i x within is other sought =
    sym (ap (find test) (rest_from xs i x within is)
    ∙ ap (λ (b : Bool). cond b (Some x) (find test (drop (i + 1) xs))) other)
    ∙ sought

-- it is
pub looked_up : {A : Type 0} (test : A → Bool) (xs : List A) (i : ℕ) (x : A) → i < length xs → x ≡ get_or xs i x
    → test x ≡ true → find test (drop i xs) ≡ find test xs → find test xs ≡ Some x
looked_up test xs i x within is own sought =
    sym sought
    ∙ (ap (find test) (rest_from xs i x within is)
    ∙ ap (λ (b : Bool). cond b (Some x) (find test (drop (i + 1) xs))) own)
