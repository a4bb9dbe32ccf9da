-- A put of a cell whose areas are the whole disk.
use Rattle.std.proofs.Common.{◌≡◌, ◌⊎◌, inl, inr, ⊎_elim, ℕ, List, Some, sym, ◌∙◌, ap}
use Rattle.sector_disk.specs.Clock.{LeavesOnly}
use Rattle.sector_disk.proofs.Moments.{weakened}
use Rattle.gate_cell.specs.Layout.{stands_for}
use Rattle.gate_cell.specs.Stands.{MayStand, StoodSince, PutLeaves}
use Rattle.gate_cell.proofs.Lift.{lifted}

module _ {D : Type 0} (moment : D → ℕ) (left_since : D → ℕ → List ℕ → Type 0) (may_leave : D → List ℕ → Type 0)
    (size : D → ℕ) (old new : D) (same : size new ≡ size old) (sectors : ℕ) (is : sectors ≡ size old)
    (seen framed value : List ℕ) (holds : framed ≡ value) (stays : may_leave old seen)
    (run : LeavesOnly moment left_since old new (PutLeaves sectors seen framed)) where
  pub old_or_new : LeavesOnly moment (StoodSince left_since size) old new
      (λ left. MayStand may_leave size old left ⊎ (left ≡ Some value))
  old_or_new =
      lifted stands_for moment left_since size old new same
      (λ left. MayStand may_leave size old left ⊎ (left ≡ Some value))
      (weakened moment left_since old new
      (λ c. MayStand may_leave size old (stands_for (size old) c) ⊎ (stands_for (size old) c ≡ Some value))
      (PutLeaves sectors seen framed) run
      (λ c put. ⊎_elim
      (λ was. inl (seen, stays, sym (ap (λ n. stands_for n c) (sym is) ∙ was ∙ ap (λ n. stands_for n seen) is)))
      (λ now. inr (ap (λ n. stands_for n c) (sym is) ∙ now ∙ ap (λ v. Some v) holds))
      put.stands))
