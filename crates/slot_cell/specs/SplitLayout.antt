-- Where a header and two slots lie on a disk: sector 0 is the gate, sectors 1 and 2 are the header's two areas, and the
-- slots follow. So the first three sectors are a cell of their own.
use Rattle.std.specs.Prelude.{◌≡◌, ◌⊎◌, ℕ, ◌+◌, ◌-◌, ◌*◌, ◌/◌, ◌<◌, min, leb, if◌then◌else◌, List, take, drop}
use Rattle.std.specs.Prelude.{Option, Some, None}
use Rattle.sector_disk.specs.declared.TheConstants.{SECTOR_BYTES}
use Rattle.gate_cell.specs.declared.TheConstants.{MAX_VALUE_BYTES}
use Rattle.gate_cell.specs.declared.frame.TheConstants.{LENGTH_BYTES}
use Rattle.gate_cell.specs.Layout.{length_in, value_in, stands_for, room_on}
use Rattle.slot_cell.specs.declared.TheConstants.{HEADER_SECTORS, LEAST_SPLIT_SECTORS}
use Rattle.slot_cell.specs.Whole.{Whole}

-- the sectors of one of the two slots of a disk of so many
abbrev pub slot_sectors : ℕ → ℕ
slot_sectors size = (size - HEADER_SECTORS) / 2

-- the most bytes that fit a slot
abbrev pub slot_room_on : ℕ → ℕ
slot_room_on size = min MAX_VALUE_BYTES (SECTOR_BYTES * slot_sectors size - LENGTH_BYTES)

-- the sectors of slot 0 or 1
abbrev pub slot_area : ℕ → ℕ → List ℕ → List ℕ
slot_area size k content =
    take (SECTOR_BYTES * slot_sectors size) (drop (SECTOR_BYTES * (HEADER_SECTORS + k * slot_sectors size)) content)

-- what these hold, or none where their length doesn't fit
abbrev pub in_slot : ℕ → List ℕ → Option (List ℕ)
in_slot size bytes = if leb (length_in bytes) (slot_room_on size) then Some (value_in bytes) else None

abbrev pub slot_on : ℕ → ℕ → List ℕ → Option (List ℕ)
slot_on size k content = in_slot size (slot_area size k content)

-- the header: the value for which the first three sectors stand
abbrev pub header_on : ℕ → List ℕ → Option (List ℕ)
header_on size content = stands_for HEADER_SECTORS content

abbrev pub whole_on : ℕ → List ℕ → Whole
whole_on size content =
    record { header = header_on size content; first = slot_on size 0 content; second = slot_on size 1 content }

-- a disk too small for header and slots, or one whose content stands for no header
abbrev pub HoldsNoHeader : ℕ → List ℕ → Type 0
HoldsNoHeader size content = (size < LEAST_SPLIT_SECTORS) ⊎ (stands_for HEADER_SECTORS content ≡ None)

-- a disk too small for header and slots, or a header of so many bytes that doesn't fit
abbrev pub HasNoHeaderRoom : ℕ → ℕ → Type 0
HasNoHeaderRoom size value_len = (size < LEAST_SPLIT_SECTORS) ⊎ (room_on HEADER_SECTORS < value_len)
