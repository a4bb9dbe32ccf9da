-- That the image of an instance is held, as a node tells it and as the abstract machine does.
use Rattle.std.proofs.Common.{◌≡◌, inl, inr, ℕ, suc, ◌<◌, ◌≤◌, true, false, Option, Some, None, refl, ap, subst}
use Rattle.std.proofs.Common.{arith}
use Rattle.std.specs.Prelude.{◌≢◌, ◌==◌, nat_le, nat_lt}
use Rattle.std.proofs.lemmas.Bool.{eqb-true, eq-eqb}
use Rattle.std.proofs.lemmas.Bool.Decides.{leb_tells}
use Rattle.record.specs.declared.record.Tentative.{Tentative as HeldImage}
use Rattle.recovery_line.proofs.Basics.{one_inside}
use Rattle.protocol.specs.World.Common.{Image, Mode, image_seen, mode_seen}
use Rattle.recovery_line.specs.Observers.{tentative_seen}
use Rattle.recovery_line.specs.Records.{Tentative}
use Rattle.protocol.specs.Node.Common.{holds, is_down, ModeView, Down, InDoubt, Runs}
use Rattle.protocol_laws.specs.Join.Crossings.{both_true, true_both}

pub at_most : (a b : ℕ) → nat_le a b ≡ true → a ≤ b
at_most a b is = elim (leb_tells a b) [ inl yes_it ↦ yes_it.1 | inr not_it ↦ absurd (let e = not_it.0 in cc) ]

pub above : (a b : ℕ) → nat_le a b ≡ false → b < a
above a b is = elim (leb_tells a b) [ inl yes_it ↦ absurd (let e = yes_it.0 in cc) | inr not_it ↦ not_it.1 ]

pub not_below : (a b : ℕ) → nat_lt a b ≡ false → b ≤ a
not_below a b is = elim (leb_tells (suc a) b) [
  | inl yes_it ↦ absurd (let e = yes_it.0 in cc)
  | inr not_it ↦ (let less = not_it.1 in omega (arith, less))
]

-- a node that is up isn't seen as down
pub up_seen : (mode : ModeView) → is_down mode ≡ false → mode_seen mode ≢ Mode.Down
up_seen Down up is = cc
up_seen InDoubt up is = cc
up_seen (Runs running) up is = cc

-- the image of the instance (x, n) is held
pub record IsHeld (x n : ℕ) (tentative : Option HeldImage) : Type 0 where
  pub held : HeldImage
  pub is : tentative ≡ Some held
  pub initiator : held.initiator ≡ x
  pub number : held.number ≡ n

pub held_where : (x n : ℕ) (tentative : Option HeldImage) → holds x n tentative ≡ true → IsHeld x n tentative
held_where x n None is = absurd (cc)
held_where x n (Some held) is =
    let ids = both_true (held.initiator == x) (held.number == n) is in
    record {
      held = held;
      is = refl;
      initiator = eqb-true held.initiator x ids.0;
      number = eqb-true held.number n ids.1;
    }

-- what holds of an instance that is held, named by its own image, does of (x, n)
pub named_so : (x n : ℕ) (tentative : Option HeldImage) (at : IsHeld x n tentative) (P : ℕ → ℕ → Type 0)
    → P at.held.initiator at.held.number → P x n
named_so x n tentative at P one =
    subst (λ (y : ℕ). P y n) at.initiator (subst (λ (m : ℕ). P at.held.initiator m) at.number one)

-- the abstract machine sees it held
pub held_seen : (x n : ℕ) (tentative : Option HeldImage) (at : IsHeld x n tentative)
    → tentative_seen tentative ≡ Some (record { initiator = x; number = n; image = image_seen at.held.image })
held_seen x n tentative at =
    named_so x n tentative at
    (λ (y m : ℕ). tentative_seen tentative
    ≡ Some (record { initiator = y; number = m; image = image_seen at.held.image }))
    (ap tentative_seen at.is)

-- and sees none where it isn't
pub not_held : (x n : ℕ) (tentative : Option HeldImage) → holds x n tentative ≡ false → (image : Image)
    → tentative_seen tentative ≡ Some (record { initiator = x; number = n; image = image }) → ⊥
not_held x n None fails image is = cc
not_held x n (Some held) fails image is =
    let initiator : held.initiator ≡ x = ap (λ (t : Tentative). t.initiator) (one_inside refl is) in
    let number : held.number ≡ n = ap (λ (t : Tentative). t.number) (one_inside refl is) in
    let whole : holds x n (Some held) ≡ true = true_both (held.initiator == x) (held.number == n)
    (eq-eqb held.initiator x initiator) (eq-eqb held.number n number) in
    cc
