-- A read of a slot.
use Rattle.std.proofs.Common.{◌≡◌, ℕ, ◌+◌, ◌*◌, ◌<◌, ◌≤◌, List, take, drop, Some, None}
use Rattle.std.proofs.Common.{sym, ◌∙◌, ap, arith}
use Rattle.std.specs.Prelude.{if◌then◌else◌}
use Rattle.std.proofs.lemmas.List.{take-take}
use Rattle.std.proofs.lemmas.Bool.{le-leb, lt-leb}
use Rattle.std.specs.Int.{w64, from_be_bytes}
use Rattle.sector_disk.specs.Clock.{LeavesOnly}
use Rattle.sector_disk.proofs.Moments.{joined}
use Rattle.sector_disk.specs.declared.TheConstants.{SECTOR_BYTES}
use Rattle.gate_cell.specs.declared.frame.TheConstants.{LENGTH_BYTES}
use Rattle.gate_cell.specs.Layout.{length_in, value_in, frame_size}
use Rattle.gate_cell.specs.Stands.{Looks}
use Rattle.gate_cell.proofs.Areas.{take_behind}
use Rattle.slot_cell.specs.declared.TheConstants.{HEADER_SECTORS}
use Rattle.slot_cell.specs.Whole.{slot_in}
use Rattle.slot_cell.specs.SplitLayout.{slot_sectors, slot_room_on, slot_area, whole_on}
use Rattle.slot_cell.proofs.SplitMoves.{slot_of_whole}

module _ (size k sectors a : ℕ) (seen front : List ℕ) (big : 5 ≤ size) (le : k ≤ 1) (size_is : sectors ≡ size)
    (area_is : a ≡ slot_sectors sectors)
    (front_is : front ≡ take SECTOR_BYTES (drop (SECTOR_BYTES * (HEADER_SECTORS + k * a)) seen)) where
  at_is : SECTOR_BYTES * (HEADER_SECTORS + k * a) ≡ SECTOR_BYTES * (HEADER_SECTORS + k * slot_sectors size)
  at_is = ap (λ a. SECTOR_BYTES * (HEADER_SECTORS + k * a)) (area_is ∙ ap slot_sectors size_is)

  pub front_length : length_in front ≡ length_in (slot_area size k seen)
  front_length =
      let rest = drop (SECTOR_BYTES * (HEADER_SECTORS + k * slot_sectors size)) seen in
      ap length_in (front_is ∙ ap (λ x. take SECTOR_BYTES (drop x seen)) at_is)
      ∙ ap (from_be_bytes w64)
      (take-take LENGTH_BYTES SECTOR_BYTES rest (omega arith)
      ∙ sym (take-take LENGTH_BYTES (SECTOR_BYTES * slot_sectors size) rest (omega (arith, big))))

  module _ (len most : ℕ) (len_is : len ≡ length_in front) (most_is : most ≡ slot_room_on sectors) where
    -- a length that doesn't fit
    pub holds_none : most < len → slot_in k (whole_on size seen) ≡ None
    holds_none more =
        let room : most ≡ slot_room_on size = most_is ∙ ap slot_room_on size_is in
        sym (slot_of_whole size k seen le)
        ∙ ap (λ b. if b then Some (value_in (slot_area size k seen)) else None)
        (lt-leb (length_in (slot_area size k seen)) (slot_room_on size)
        (omega (arith, more, len_is, front_length, room)))

    module _ (n : ℕ) (frame read value between : List ℕ) (same : between ≡ seen) (fits : len ≤ most)
        (n_is : n ≡ frame_size len) (frame_is : frame ≡ read)
        (read_is : read ≡ take n (drop (SECTOR_BYTES * (HEADER_SECTORS + k * a)) between))
        (value_is : value ≡ take len (drop LENGTH_BYTES frame)) where
      pub holds_read : slot_in k (whole_on size seen) ≡ Some value
      holds_read =
          let rest = drop (SECTOR_BYTES * (HEADER_SECTORS + k * slot_sectors size)) seen in
          let m = SECTOR_BYTES * slot_sectors size in
          let room : most ≡ slot_room_on size = most_is ∙ ap slot_room_on size_is in
          let from : frame ≡ take n rest =
          frame_is ∙ read_is ∙ ap (λ (l : List ℕ). take n (drop (SECTOR_BYTES * (HEADER_SECTORS + k * a)) l)) same
          ∙ ap (λ x. take n (drop x seen)) at_is in
          let within : len ≤ slot_room_on size = omega (arith, fits, room) in
          let is : value ≡ value_in (slot_area size k seen) =
          value_is ∙ ap (λ (l : List ℕ). take len (drop LENGTH_BYTES l)) from
          ∙ take_behind LENGTH_BYTES len n rest (omega (arith, n_is))
          ∙ sym (take_behind LENGTH_BYTES len m rest (omega (arith, big, within)))
          ∙ ap (λ j. take j (drop LENGTH_BYTES (slot_area size k seen))) (len_is ∙ front_length) in
          sym (slot_of_whole size k seen le)
          ∙ ap (λ b. if b then Some (value_in (slot_area size k seen)) else None)
          (le-leb (length_in (slot_area size k seen)) (slot_room_on size)
          (omega (arith, within, len_is, front_length)))
          ∙ ap (λ v. Some v) (sym is)

-- one look after another
pub two_looks : {D : Type 0} (content : D → List ℕ) (may_leave : D → List ℕ → Type 0) (moment : D → ℕ)
    (left_since : D → ℕ → List ℕ → Type 0) (old mid new : D) → Looks content may_leave moment left_since old mid
    → Looks content may_leave moment left_since mid new
    → LeavesOnly moment left_since old new (may_leave old)
two_looks content may_leave moment left_since old mid new one two =
    joined moment left_since old mid new (may_leave old) (may_leave mid) one.any_moment two.any_moment one.quiet.no_more
