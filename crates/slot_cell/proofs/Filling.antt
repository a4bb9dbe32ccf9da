-- A fill of a slot.
use Rattle.std.proofs.Common.{◌≡◌, ℕ, zero, suc, ◌+◌, ◌*◌, ◌%◌, ◌≤◌, List}
use Rattle.std.proofs.Common.{length, get_or, Some, refl, sym, ◌∙◌, ap, subst, arith}
use Rattle.sector_disk.specs.Clock.{Only, LeavesOnly}
use Rattle.sector_disk.specs.Disk.{SameOutside, IsOverwritten}
use Rattle.sector_disk.proofs.Moments.{weakened}
use Rattle.sector_disk.proofs.Writes.{overwritten_outside}
use Rattle.sector_disk.specs.declared.TheConstants.{SECTOR_BYTES}
use Rattle.gate_cell.specs.Layout.{area, area_sectors, named, length_in, stands_for, value_on, IsFrame, IsSettled}
use Rattle.gate_cell.specs.Stands.{AlwaysStands}
use Rattle.gate_cell.proofs.Areas.{part_before, first_same}
use Rattle.gate_cell.proofs.Standing.{stands_for_named}
use Rattle.slot_cell.specs.declared.TheConstants.{HEADER_SECTORS}
use Rattle.slot_cell.specs.Whole.{Whole, slot_in, with_slot, LeftByFill}
use Rattle.slot_cell.specs.SplitLayout.{slot_sectors, slot_room_on, whole_on}
use Rattle.slot_cell.proofs.SplitMoves.{slot_at, header_same, fill_left, fill_done, short_slot}

-- what a fill knows before its write
pub record Filling (size k at : ℕ) (seen value frame : List ℕ) : Type 0 where
  pub big : 5 ≤ size
  pub le : k ≤ 1
  pub whole : length seen ≡ SECTOR_BYTES * size
  pub is_frame : IsFrame value frame
  pub room : length value ≤ slot_room_on size
  pub at_is : at ≡ slot_at size k

pub filling : (size k sectors a most : ℕ) (seen value frame bytes : List ℕ) → 5 ≤ size → k ≤ 1
    → length seen ≡ SECTOR_BYTES * size → IsFrame value frame → bytes ≡ frame → sectors ≡ size
    → a ≡ slot_sectors sectors
    → most ≡ slot_room_on sectors → length value ≤ most
    → Filling size k (SECTOR_BYTES * (HEADER_SECTORS + k * a)) seen value bytes
filling size k sectors a most seen value frame bytes big le whole is_frame bytes_are size_is area_is most_is room =
    record {
      big = big;
      le = le;
      whole = whole;
      is_frame = subst (IsFrame value) (sym bytes_are) is_frame;
      room = subst (λ n. length value ≤ n) (most_is ∙ ap slot_room_on size_is) room;
      at_is = ap (λ a. SECTOR_BYTES * (HEADER_SECTORS + k * a)) (area_is ∙ ap slot_sectors size_is);
    }

pub same_slot : (k : ℕ) (w : Whole) → w ≡ with_slot k (slot_in k w) w
same_slot zero w = refl
same_slot (suc k) w = refl

module _ (size k at : ℕ) (seen value frame : List ℕ) (s : Filling size k at seen value frame) where
  short : length frame ≤ SECTOR_BYTES * slot_sectors size
  short = short_slot size value frame s.big s.room s.is_frame

  behind : SECTOR_BYTES * HEADER_SECTORS ≤ at
  behind = subst (λ x. SECTOR_BYTES * HEADER_SECTORS ≤ x) (sym s.at_is) (omega arith)

  pub one_left : {may_leave : List ℕ → Type 0} → may_leave seen → (c : List ℕ) → SameOutside at (length frame) seen c
      → LeftByFill (λ w. (d : List ℕ) × may_leave d × (whole_on size d ≡ w)) k (whole_on size c)
  one_left left c torn =
      fill_left size k (length frame) seen c left s.le short
      (subst (λ x. SameOutside x (length frame) seen c) s.at_is torn)

  pub then_filled : (new : List ℕ) → IsOverwritten seen at frame new
      → whole_on size new ≡ with_slot k (Some value) (whole_on size seen)
  then_filled new written =
      fill_done size k seen new value frame s.le s.big s.whole s.is_frame s.room short
      (subst (λ x. IsOverwritten seen x frame new) s.at_is written)

  inside : at + length frame ≤ length seen
  inside = subst (λ x. x + length frame ≤ length seen) (sym s.at_is) (fits k s.le)
    where
      fits : (k : ℕ) → k ≤ 1 → slot_at size k + length frame ≤ length seen
      fits zero le = omega (arith, s.whole, short, s.big)
      fits (suc zero) le = omega (arith, s.whole, short, s.big)
      fits (suc (suc k)) le = absurd (omega (arith, le))

  -- the header stands
  pub still_stands : (may_leave : List ℕ → Type 0)
      → stands_for HEADER_SECTORS seen ≡ Some (value_on HEADER_SECTORS seen)
      → ((c : List ℕ) → may_leave c → SameOutside at (length frame) seen c) → AlwaysStands HEADER_SECTORS may_leave
  still_stands may_leave stood torn c left =
      stands_for_named HEADER_SECTORS c (value_on HEADER_SECTORS seen)
      (header_same size at (length frame) seen c behind (torn c left) ∙ stood)

  pub still_settled : (before after : List ℕ → Type 0) (active len : ℕ) (new : List ℕ)
      → IsSettled seen before HEADER_SECTORS active len → IsOverwritten seen at frame new → Only new after
      → IsSettled new after HEADER_SECTORS active len
  still_settled before after active len new settled written only =
      let torn : SameOutside at (length frame) seen new = overwritten_outside at frame seen new inside written in
      let byte : get_or new 0 0 ≡ get_or seen 0 0 =
      first_same at (length frame) seen new torn (omega (arith, behind)) in
      let same : named HEADER_SECTORS new ≡ named HEADER_SECTORS seen = ap (λ b. area HEADER_SECTORS (b % 2) new) byte
      ∙ part_before at (length frame) seen new torn
      (SECTOR_BYTES * (1 + (get_or seen 0 0 % 2) * area_sectors HEADER_SECTORS))
      (SECTOR_BYTES * area_sectors HEADER_SECTORS) (grind (arith, behind)) in
      record {
        durable = only;
        gate = ap (λ b. b % 2) byte ∙ settled.gate;
        long =
            ap length_in same ∙ settled.long;
        fits = settled.fits;
      }

  pub fill_run : {D : Type 0} (moment : D → ℕ) (left_since : D → ℕ → List ℕ → Type 0) (may_leave : List ℕ → Type 0)
      (old new : D) → may_leave seen → LeavesOnly moment left_since old new (SameOutside at (length frame) seen)
      → LeavesOnly moment left_since old new
      (λ c. LeftByFill (λ w. (d : List ℕ) × may_leave d × (whole_on size d ≡ w)) k (whole_on size c))
  fill_run moment left_since may_leave old new left run =
      weakened moment left_since old new
      (λ c. LeftByFill (λ w. (d : List ℕ) × may_leave d × (whole_on size d ≡ w)) k (whole_on size c))
      (SameOutside at (length frame) seen) run
      (λ c torn. one_left left c torn)
