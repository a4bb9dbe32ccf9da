-- A put of the header, as the header sees it and as all three do.
use Rattle.std.proofs.Common.{◌≡◌, ◌⊎◌, inl, inr, ⊎_elim, ℕ, List, Some, sym, ◌∙◌, ap, subst, ◌*◌}
use Rattle.std.proofs.Common.{drop}
use Rattle.sector_disk.specs.Clock.{LeavesOnly}
use Rattle.sector_disk.specs.declared.TheConstants.{SECTOR_BYTES}
use Rattle.sector_disk.proofs.Moments.{weakened}
use Rattle.gate_cell.specs.Layout.{value_on, IsSettled}
use Rattle.gate_cell.specs.Stands.{AlwaysStands, PutLeaves, settled_value}
use Rattle.gate_cell.proofs.Standing.{stands_for_named}
use Rattle.slot_cell.specs.declared.TheConstants.{HEADER_SECTORS}
use Rattle.slot_cell.specs.Whole.{with_header, LeftByPut}
use Rattle.slot_cell.specs.SplitLayout.{header_on, whole_on}
use Rattle.slot_cell.proofs.SplitMoves.{put_whole, slot_behind, whole_ext}

module _ {D : Type 0} (moment : D → ℕ) (left_since : D → ℕ → List ℕ → Type 0) (may_leave : List ℕ → Type 0) (size : ℕ)
    (old new : D) (seen framed value : List ℕ) (is : framed ≡ value) (stays : may_leave seen)
    (run : LeavesOnly moment left_since old new (PutLeaves HEADER_SECTORS seen framed)) where
  put_header : (c : List ℕ) → PutLeaves HEADER_SECTORS seen framed c
      → ((d : List ℕ) × may_leave d × (header_on size d ≡ header_on size c)) ⊎ (header_on size c ≡ Some value)
  put_header c put = ⊎_elim (λ same. inl (seen, stays, sym same)) (λ new. inr (new ∙ ap (λ v. Some v) is)) put.stands

  pub header_run : LeavesOnly moment left_since old new
      (λ c. ((d : List ℕ) × may_leave d × (header_on size d ≡ header_on size c)) ⊎ (header_on size c ≡ Some value))
  header_run =
      weakened moment left_since old new
      (λ c. ((d : List ℕ) × may_leave d × (header_on size d ≡ header_on size c)) ⊎ (header_on size c ≡ Some value))
      (PutLeaves HEADER_SECTORS seen framed) run put_header

  pub whole_run : LeavesOnly moment left_since old new
      (λ c. LeftByPut (λ w. (d : List ℕ) × may_leave d × (whole_on size d ≡ w)) value (whole_on size c))
  whole_run =
      weakened moment left_since old new
      (λ c. LeftByPut (λ w. (d : List ℕ) × may_leave d × (whole_on size d ≡ w)) value (whole_on size c))
      (PutLeaves HEADER_SECTORS seen framed) run
      (λ c put. subst (λ v. LeftByPut (λ w. (d : List ℕ) × may_leave d × (whole_on size d ≡ w)) v (whole_on size c)) is
      (put_whole size seen framed c stays put))

  pub put_stands : (may_leave_now : List ℕ → Type 0) → AlwaysStands HEADER_SECTORS may_leave
      → ((c : List ℕ) → may_leave_now c → left_since new (moment old) c) → AlwaysStands HEADER_SECTORS may_leave_now
  put_stands may_leave_now stands since c left = ⊎_elim
      (λ same. stands_for_named HEADER_SECTORS c (value_on HEADER_SECTORS seen) (same ∙ stands seen stays))
      (λ is. stands_for_named HEADER_SECTORS c framed is)
      (run.each c (since c left)).stands

-- a header that was laid out anew stands before the slots that were there
pub laid_whole : (size active len : ℕ) (may_leave : List ℕ → Type 0) (seen done framed value : List ℕ)
    → IsSettled done may_leave HEADER_SECTORS active len → value_on HEADER_SECTORS done ≡ framed → framed ≡ value
    → drop (SECTOR_BYTES * HEADER_SECTORS) done ≡ drop (SECTOR_BYTES * HEADER_SECTORS) seen
    → whole_on size done ≡ with_header (Some value) (whole_on size seen)
laid_whole size active len may_leave seen done framed value settled holds is behind =
    whole_ext _ _ _ _ _ _
    (settled_value done may_leave HEADER_SECTORS active len settled ∙ ap (λ v. Some v) (holds ∙ is))
    (slot_behind size 0 seen done behind) (slot_behind size 1 seen done behind)
