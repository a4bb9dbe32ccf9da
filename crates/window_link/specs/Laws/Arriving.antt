-- What becomes of an item, by where its position lies.
use Rattle.std.proofs.Common.{◌≡◌, ◌≢◌, ◌⊎◌, inl, inr, ℕ, ◌<◌, ◌-◌, Bool, true, false, ◌&&◌, cond, eqb, ℤ, Option}
use Rattle.std.proofs.Common.{Some, None, refl, ap, ◌∙◌, arith}
use Rattle.std.specs.Prelude.{slice_get, nat_le, nat_lt}
use Rattle.std.proofs.lemmas.Bool.{ltb-true, leb-true}
use Rattle.std.proofs.lemmas.Bool.Decides.{eqb_tells}
use Rattle.kahn_net.specs.declared.limits.TheConstants.{MAX_COUNT}
use Rattle.window_link.specs.declared.receiving.Arrival.TheVariants.{Taken, Held, Dropped}
use Rattle.window_link.specs.Windows.{Receiver, is_free, is_open, arrival_at}

-- the position is the next one, and its item is taken
pub record IsTaken (window : Receiver) (position : ℕ) : Type 0 where
  pub next : position ≡ window.next
  pub below : window.next < MAX_COUNT
  pub is : arrival_at window position ≡ Taken

-- the position is a later one that is free, and its item is held
pub record IsHeld (window : Receiver) (position : ℕ) : Type 0 where
  pub later : window.next < position
  pub free : slice_get window.held (position - window.next) ≡ Some None
  pub is : arrival_at window position ≡ Held

both_parts : (a b : Bool) → (a && b) ≡ true → (a ≡ true) × (b ≡ true)
both_parts true b is = (refl, is)
both_parts false b is = absurd (cc)

free_tells : (place : Option (Option ℤ)) → is_free place ≡ true → place ≡ Some None
free_tells None is = absurd (cc)
free_tells (Some None) is = refl
free_tells (Some (Some item)) is = absurd (cc)

-- an item is taken, held, or dropped
pub arrival_tells : (window : Receiver) (position : ℕ)
    → IsTaken window position ⊎ (IsHeld window position ⊎ (arrival_at window position ≡ Dropped))
arrival_tells window position = at (is_open window position) refl (eqb_tells position window.next)
  where
    at : (open_there : Bool) → is_open window position ≡ open_there
        → ((eqb position window.next ≡ true) × (position ≡ window.next))
        ⊎ ((eqb position window.next ≡ false) × (position ≢ window.next))
        → IsTaken window position ⊎ (IsHeld window position ⊎ (arrival_at window position ≡ Dropped))
    at false shut same =
        inr (inr (ap (λ (b : Bool). cond b (cond (eqb position window.next) Taken Held) Dropped) shut))
    at true is (inl same) =
        let first = both_parts (nat_le window.next position) _ is in
        let second = both_parts (nat_lt position MAX_COUNT) _ first.1 in
        let below = ltb-true position MAX_COUNT second.0 in
        let here = same.1 in
        inl (record {
          next = same.1;
          below = omega (arith, below, here);
          is = ap (λ (b : Bool). cond b (cond (eqb position window.next) Taken Held) Dropped) is
              ∙ ap (λ (b : Bool). cond b Taken Held) same.0;
        })
    at true is (inr other) =
        let first = both_parts (nat_le window.next position) _ is in
        let second = both_parts (nat_lt position MAX_COUNT) _ first.1 in
        let low = leb-true window.next position first.0 in
        let apart = other.1 in
        inr (inl (record {
          later = omega (arith, low, apart);
          free = free_tells (slice_get window.held (position - window.next)) second.1;
          is = ap (λ (b : Bool). cond b (cond (eqb position window.next) Taken Held) Dropped) is
              ∙ ap (λ (b : Bool). cond b Taken Held) other.0;
        }))
