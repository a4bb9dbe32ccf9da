-- What a fill and a put of a ready cell may leave.
use Rattle.std.proofs.Common.{◌≡◌, ℕ, ◌≤◌, List, Option, Some, refl, sym, ◌∙◌, ap, subst}
use Rattle.sector_disk.specs.Clock.{Only, LeavesOnly}
use Rattle.sector_disk.proofs.Moments.{weakened}
use Rattle.slot_cell.specs.Whole.{Whole, slot_in, with_slot, with_header, LeftByPut, AsBefore, WithValue, LeftByFill}
use Rattle.slot_cell.specs.Whole.{OnlyPuts}

module _ {C : Type 0} (whole : C → Whole) (moment : C → ℕ) (left_since : C → ℕ → Whole → Type 0)
    (may_leave : C → Whole → Type 0) (old new : C) (only : Only (whole old) (may_leave old)) where
  pub after_fill : (slot : ℕ) (P : Whole → Type 0) → ((x : Option (List ℕ)) → P (with_slot slot x (whole old)))
      → LeavesOnly moment left_since old new (LeftByFill (may_leave old) slot) → LeavesOnly moment left_since old new P
  after_fill slot P holds run = weakened moment left_since old new P (LeftByFill (may_leave old) slot) run
      (λ left by. subst P (sym (by.torn ∙ ap (with_slot slot (slot_in slot left)) (only by.was by.might)))
      (holds (slot_in slot left)))

  module _ (value : List ℕ) (slot_room : C → ℕ)
      (run : OnlyPuts whole slot_room moment left_since may_leave old new value) where
    by_put : (P : Whole → Type 0) → P (whole old) → P (with_header (Some value) (whole old)) → (left : Whole)
        → LeftByPut (may_leave old) value left → P left
    by_put P first next left (AsBefore might) = subst P (sym (only left might)) first
    by_put P first next left (WithValue was might is) =
        subst P (sym (is ∙ ap (with_header (Some value)) (only was might))) next

    pub after_put : (P : Whole → Type 0) → P (whole old) → P (with_header (Some value) (whole old))
        → LeavesOnly moment left_since old new P
    after_put P first next =
        weakened moment left_since old new P (LeftByPut (may_leave old) value) run.any_moment (by_put P first next)

    -- on Ok the header is the new value, and the slots stand
    pub put_done : may_leave new (whole new)
        → ((t : ℕ) (left : Whole) → t ≤ moment new → may_leave new left → left_since new t left)
        → (whole new).header ≡ Some value → whole new ≡ with_header (Some value) (whole old)
    put_done stays includes header =
        by_put (λ left. left.header ≡ Some value → left ≡ with_header (Some value) (whole old))
        (λ is. ap (λ h. with_header h (whole old)) is) (λ is. refl)
        (whole new) (run.any_moment.each (whole new) (includes (moment old) (whole new) run.any_moment.later stays))
        header
