-- That what the contents of a disk show of header and slots is what a cell with slots promises.
use Rattle.std.specs.Prelude.{◌≡◌, ℕ, zero, suc, ◌≤◌, leb, List, length, drop, Option, Some, IsSome}
use Rattle.std.proofs.Common.{refl, sym, ◌∙◌, ap, subst, arith}
use Rattle.std.proofs.lemmas.Bool.{leb-true}
use Rattle.std.proofs.lemmas.List.{length-take}
use Rattle.std.proofs.lemmas.Option.{cond_some}
use Rattle.sector_disk.specs.Clock.{Only}
use Rattle.gate_cell.specs.Layout.{length_in, value_in, room_on}
use Rattle.gate_cell.specs.Stands.{AlwaysStands}
use Rattle.gate_cell.specs.declared.TheConstants.{MAX_VALUE_BYTES}
use Rattle.gate_cell.specs.declared.frame.TheConstants.{LENGTH_BYTES}
use Rattle.slot_cell.specs.Whole.{Whole, slot_in}
use Rattle.slot_cell.specs.SplitLayout.{whole_on, header_on, slot_on, slot_area, slot_room_on}
use Rattle.slot_cell.specs.declared.TheConstants.{HEADER_SECTORS, MIN_HEADER_BYTES}

-- the header of what is left of all three is what is left of the value
pub whole_shows : {P : List ℕ → Type 0} (size : ℕ) (left : Whole) → (c : List ℕ) × P c × (whole_on size c ≡ left)
    → (c : List ℕ) × P c × (header_on size c ≡ left.header)
whole_shows size left m = (m.0, m.1, ap (λ (w : Whole). w.header) m.2)

-- and what is left of the value is the header of such a whole
pub header_covers : {P : List ℕ → Type 0} (size : ℕ) (left : Option (List ℕ))
    → (c : List ℕ) × P c × (header_on size c ≡ left)
    → (w : Whole) × ((c : List ℕ) × P c × (whole_on size c ≡ w)) × (w.header ≡ left)
header_covers size left m = (whole_on size m.0, (m.0, m.1, refl), m.2)

-- where a crash leaves one content alone, it leaves one whole alone
pub only_whole : (size : ℕ) (seen : List ℕ) (may_leave : List ℕ → Type 0) → Only seen may_leave → (left : Whole)
    → (c : List ℕ) × may_leave c × (whole_on size c ≡ left) → left ≡ whole_on size seen
only_whole size seen may_leave only left m = sym m.2 ∙ ap (whole_on size) (only m.0 m.1)

-- where it may leave what reads give, it may leave the whole of that
pub whole_stays : (size : ℕ) (seen : List ℕ) (may_leave : List ℕ → Type 0) → may_leave seen
    → (c : List ℕ) × may_leave c × (whole_on size c ≡ whole_on size seen)
whole_stays size seen may_leave left = (seen, left, refl)

-- whatever it leaves has a header
pub whole_opens : (size : ℕ) (may_leave : List ℕ → Type 0) → AlwaysStands HEADER_SECTORS may_leave → (left : Whole)
    → (c : List ℕ) × may_leave c × (whole_on size c ≡ left) → IsSome left.header
whole_opens size may_leave stands left m = subst IsSome (sym (stands m.0 m.1) ∙ ap (λ (w : Whole). w.header) m.2) refl

-- what is in a slot fits it
slot_fits : (size : ℕ) (value : List ℕ) (k : ℕ) (c : List ℕ) → slot_on size k c ≡ Some value
    → length value ≤ slot_room_on size
slot_fits size value k c is =
    let area = slot_area size k c in
    let found = cond_some (leb (length_in area) (slot_room_on size)) (value_in area) value is in
    let fits : length_in area ≤ slot_room_on size = leb-true (length_in area) (slot_room_on size) found.0 in
    let short = length-take (length_in area) (drop LENGTH_BYTES area) in
    subst (λ (v : List ℕ). length v ≤ slot_room_on size) found.1 (omega (arith, short, fits))

pub whole_fits : {P : List ℕ → Type 0} (size : ℕ) (left : Whole) (k : ℕ) (value : List ℕ)
    → (c : List ℕ) × P c × (whole_on size c ≡ left) → slot_in k left ≡ Some value → length value ≤ slot_room_on size
whole_fits size left zero value m is =
    slot_fits size value 0 m.0 (ap (λ (w : Whole). w.first) m.2 ∙ is)
whole_fits size left (suc k) value m is =
    slot_fits size value 1 m.0 (ap (λ (w : Whole). w.second) m.2 ∙ is)

-- no slot has room for more than a value may have
pub slot_room_bound : (size : ℕ) → slot_room_on size ≤ MAX_VALUE_BYTES
slot_room_bound size = omega arith

-- the header's room is that of one sector but for a length
pub header_room : MIN_HEADER_BYTES ≤ room_on HEADER_SECTORS
header_room = omega arith
