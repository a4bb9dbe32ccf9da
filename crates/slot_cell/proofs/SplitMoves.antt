-- What a put of the header, and a fill of a slot, leave of the contents.
use Rattle.std.proofs.Common.{◌≡◌, ⊎_elim, ℕ, zero, suc, ◌+◌, ◌-◌, ◌*◌, ◌%◌, ◌≤◌, List, ◌++◌}
use Rattle.std.proofs.Common.{length, get_or, take, drop, Option, Some, None, refl, sym, ◌∙◌, ap, arith}
use Rattle.std.specs.Prelude.{if◌then◌else◌}
use Rattle.std.proofs.lemmas.Bool.{le-leb}
use Rattle.std.proofs.lemmas.List.{drop-drop}
use Rattle.sector_disk.specs.Disk.{SameOutside, IsOverwritten}
use Rattle.sector_disk.proofs.Writes.{overwritten_outside}
use Rattle.sector_disk.specs.declared.TheConstants.{SECTOR_BYTES}
use Rattle.gate_cell.specs.Layout.{area, area_sectors, length_in, value_in, in_area, IsFrame}
use Rattle.gate_cell.specs.Stands.{PutLeaves}
use Rattle.gate_cell.proofs.Areas.{part_before, part_behind, first_same, frame_length, frame_value, written_area}
use Rattle.slot_cell.specs.declared.TheConstants.{HEADER_SECTORS}
use Rattle.slot_cell.specs.Whole.{Whole, slot_in, with_slot, LeftByPut, AsBefore, WithValue, LeftByFill}
use Rattle.slot_cell.specs.SplitLayout.{slot_sectors, slot_room_on, slot_area, in_slot, slot_on, header_on, whole_on}

-- the slots are behind the header
pub slot_behind : (size k : ℕ) (old new : List ℕ)
    → drop (SECTOR_BYTES * HEADER_SECTORS) new ≡ drop (SECTOR_BYTES * HEADER_SECTORS) old
    → slot_on size k new ≡ slot_on size k old
slot_behind size k old new same =
    let split : (l : List ℕ)
    → drop (SECTOR_BYTES * (HEADER_SECTORS + k * slot_sectors size)) l
    ≡ drop (SECTOR_BYTES * (k * slot_sectors size)) (drop (SECTOR_BYTES * HEADER_SECTORS) l)
    = λ l. ap (λ j. drop j l) (omega arith)
    ∙ sym (drop-drop (SECTOR_BYTES * (k * slot_sectors size)) (SECTOR_BYTES * HEADER_SECTORS) l) in
    ap (λ (l : List ℕ). in_slot size (take (SECTOR_BYTES * slot_sectors size) l))
    (split new ∙ ap (drop (SECTOR_BYTES * (k * slot_sectors size))) same ∙ sym (split old))

-- header and slots, from each of them
pub whole_ext : (h h' a a' b b' : Option (List ℕ)) → h ≡ h' → a ≡ a' → b ≡ b'
    → ◌≡◌ {A = Whole} (record { header = h; first = a; second = b }) (record { header = h'; first = a'; second = b' })
whole_ext h h' a a' b b' eh ea eb =
    ap (λ x. record { header = x; first = a; second = b }) eh
    ∙ ap (λ x. record { header = h'; first = x; second = b }) ea
    ∙ ap (λ x. record { header = h'; first = a'; second = x }) eb

-- a put leaves one of those from before, with the old header or the new one
pub put_whole : {may_leave : List ℕ → Type 0} (size : ℕ) (seen value c : List ℕ) → may_leave seen
    → PutLeaves HEADER_SECTORS seen value c
    → LeftByPut (λ w. (d : List ℕ) × may_leave d × (whole_on size d ≡ w)) value (whole_on size c)
put_whole size seen value c left put = ⊎_elim
    (λ same. AsBefore (
      seen,
      left,
      whole_ext _ _ _ _ _ _ (sym same) (sym (slot_behind size 0 seen c put.behind))
          (sym (slot_behind size 1 seen c put.behind)),
    ))
    (λ is. WithValue (whole_on size seen) (seen, left, refl)
    (whole_ext _ _ _ _ _ _ is (slot_behind size 0 seen c put.behind) (slot_behind size 1 seen c put.behind)))
    put.stands

-- a write behind the header leaves it
pub header_same : (size at n : ℕ) (old new : List ℕ) → SECTOR_BYTES * HEADER_SECTORS ≤ at → SameOutside at n old new
    → header_on size new ≡ header_on size old
header_same size at n old new le torn =
    let byte : get_or new 0 0 ≡ get_or old 0 0 = first_same at n old new torn (omega (arith, le)) in
    ap (λ b. in_area HEADER_SECTORS (area HEADER_SECTORS (b % 2) new)) byte
    ∙ ap (in_area HEADER_SECTORS)
    (part_before at n old new torn (SECTOR_BYTES * (1 + (get_or old 0 0 % 2) * area_sectors HEADER_SECTORS))
    (SECTOR_BYTES * area_sectors HEADER_SECTORS) (grind (arith, le)))

-- the offset of a slot
abbrev pub slot_at : ℕ → ℕ → ℕ
slot_at size k = SECTOR_BYTES * (HEADER_SECTORS + k * slot_sectors size)

-- a write to one slot leaves header and the other slot
pub fill_whole : (size k n : ℕ) (old new : List ℕ) → k ≤ 1 → n ≤ SECTOR_BYTES * slot_sectors size
    → SameOutside (slot_at size k) n old new
    → whole_on size new ≡ with_slot k (slot_on size k new) (whole_on size old)
fill_whole size zero n old new le fits torn =
    whole_ext _ _ _ _ _ _ (header_same size (slot_at size 0) n old new (omega arith) torn) refl
    (ap (in_slot size)
    (part_behind (slot_at size 0) n old new torn (slot_at size 1) (SECTOR_BYTES * slot_sectors size)
    (omega (arith, fits))))
fill_whole size (suc zero) n old new le fits torn =
    whole_ext _ _ _ _ _ _ (header_same size (slot_at size 1) n old new (omega arith) torn)
    (ap (in_slot size)
    (part_before (slot_at size 1) n old new torn (slot_at size 0) (SECTOR_BYTES * slot_sectors size)
    (omega arith))) refl
fill_whole size (suc (suc k)) n old new le fits torn = absurd (omega (arith, le))

pub slot_of_whole : (size k : ℕ) (c : List ℕ) → k ≤ 1 → slot_on size k c ≡ slot_in k (whole_on size c)
slot_of_whole size zero c le = refl
slot_of_whole size (suc zero) c le = refl
slot_of_whole size (suc (suc k)) c le = absurd (omega (arith, le))

pub fill_left : {may_leave : List ℕ → Type 0} (size k n : ℕ) (seen c : List ℕ) → may_leave seen → k ≤ 1
    → n ≤ SECTOR_BYTES * slot_sectors size → SameOutside (slot_at size k) n seen c
    → LeftByFill (λ w. (d : List ℕ) × may_leave d × (whole_on size d ≡ w)) k (whole_on size c)
fill_left size k n seen c left le fits torn = record {
  was = whole_on size seen;
  might = (seen, left, refl);
  torn = fill_whole size k n seen c le fits torn
      ∙ ap (λ x. with_slot k x (whole_on size seen)) (slot_of_whole size k c le);
}

-- a slot that begins with a frame holds its value
stands_framed : (size : ℕ) (found value frame rest : List ℕ) → IsFrame value frame → length value ≤ slot_room_on size
    → found ≡ frame ++ rest → in_slot size found ≡ Some value
stands_framed size found value frame rest is_frame room there =
    ap (in_slot size) there
    ∙ ap (λ b. if b then Some (value_in (frame ++ rest)) else None)
    (le-leb (length_in (frame ++ rest)) (slot_room_on size)
    (omega (arith, frame_length value frame rest is_frame, room)))
    ∙ ap (λ v. Some v) (frame_value value frame rest is_frame)

-- a frame that was written there is the slot's
pub fill_done : (size k : ℕ) (old new value frame : List ℕ) → k ≤ 1 → 5 ≤ size → length old ≡ SECTOR_BYTES * size
    → IsFrame value frame → length value ≤ slot_room_on size
    → length frame ≤ SECTOR_BYTES * slot_sectors size → IsOverwritten old (slot_at size k) frame new
    → whole_on size new ≡ with_slot k (Some value) (whole_on size old)
fill_done size k old new value frame le big whole is_frame room fits written =
    fill_whole size k (length frame) old new le fits (overwritten_outside (slot_at size k) frame old new inside written)
    ∙ ap (λ x. with_slot k x (whole_on size old)) holds
  where
    inside : slot_at size k + length frame ≤ length old
    inside = room_for k le
      where
        room_for : (k : ℕ) → k ≤ 1 → slot_at size k + length frame ≤ length old
        room_for zero le = omega (arith, whole, fits, big)
        room_for (suc zero) le = omega (arith, whole, fits, big)
        room_for (suc (suc k)) le = absurd (omega (arith, le))

    holds : slot_on size k new ≡ Some value
    holds = stands_framed size (slot_area size k new) value frame
        (take (SECTOR_BYTES * slot_sectors size - length frame) (drop (slot_at size k + length frame) old)) is_frame
        room
        (written_area (SECTOR_BYTES * slot_sectors size) (slot_at size k) frame old new inside fits written)

pub short_slot : (size : ℕ) (value frame : List ℕ) → 5 ≤ size → length value ≤ slot_room_on size → IsFrame value frame
    → length frame ≤ SECTOR_BYTES * slot_sectors size
short_slot size value frame big room is_frame = omega (arith, big, room, is_frame.whole)
