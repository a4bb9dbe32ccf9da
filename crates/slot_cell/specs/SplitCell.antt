-- What a cell with a header and two slots on a disk shows. `disk` stands for the disk's own words.
use Rattle.std.specs.Prelude.{◌≡◌, ℕ, Bool, false, List, length, take, Option, Some, IsTrue}
use Rattle.sector_disk.specs.declared.disk.Disk.{Ghosts as DiskWords}
use Rattle.sector_disk.specs.declared.disk.ArmedFault.{ArmedFault}
use Rattle.gate_cell.specs.Layout.{value_on, room_on, named, frame_size, stands_for, IsGate, IsFrame}
use Rattle.gate_cell.specs.ValueCall.{ValueCall}
use Rattle.gate_cell.specs.Stands.{MayShow, ShownSince}
use Rattle.slot_cell.specs.Whole.{Whole, IsCall, with_header}
use Rattle.slot_cell.specs.SplitLayout.{header_on, whole_on, slot_room_on}
use Rattle.slot_cell.specs.declared.split.SplitCell.{SplitCell}
use Rattle.slot_cell.specs.declared.TheConstants.{HEADER_SECTORS}

abbrev pub disk_in : {D : Type 0} {disk : DiskWords D} → SplitCell D disk → D
disk_in cell = cell.disk

abbrev pub value_of : {D : Type 0} {disk : DiskWords D} → SplitCell D disk → List ℕ
value_of {D} {disk} cell = value_on HEADER_SECTORS (disk.content cell.disk)

abbrev pub is_ready_of : {D : Type 0} {disk : DiskWords D} → SplitCell D disk → Bool
is_ready_of cell = cell.ready

abbrev pub capacity_of : {D : Type 0} {disk : DiskWords D} → SplitCell D disk → ℕ
capacity_of cell = room_on HEADER_SECTORS

abbrev pub failures_of : {D : Type 0} {disk : DiskWords D} → SplitCell D disk → ℕ
failures_of {D} {disk} cell = disk.failure_count cell.disk

abbrev pub failed_call_of : {D : Type 0} {disk : DiskWords D} → SplitCell D disk → ℕ
failed_call_of {D} {disk} cell = disk.failed_call cell.disk

abbrev pub moment_of : {D : Type 0} {disk : DiskWords D} → SplitCell D disk → ℕ
moment_of {D} {disk} cell = disk.moment cell.disk

abbrev pub may_leave_of : {D : Type 0} {disk : DiskWords D} → SplitCell D disk → Option (List ℕ) → Type 0
may_leave_of {D} {disk} cell = MayShow header_on disk.may_leave disk.sector_count cell.disk

abbrev pub left_since_of : {D : Type 0} {disk : DiskWords D} → SplitCell D disk → ℕ → Option (List ℕ) → Type 0
left_since_of {D} {disk} cell = ShownSince header_on disk.left_since disk.sector_count cell.disk

abbrev pub asks_memory_of : {D : Type 0} {disk : DiskWords D} → SplitCell D disk → Bool
asks_memory_of cell = false

abbrev pub calls_of : {D : Type 0} {disk : DiskWords D} → SplitCell D disk → ℕ
calls_of {D} {disk} cell = disk.call_count cell.disk

-- header and slots
abbrev pub whole_of : {D : Type 0} {disk : DiskWords D} → SplitCell D disk → Whole
whole_of {D} {disk} cell = whole_on (disk.sector_count cell.disk) (disk.content cell.disk)

abbrev pub slot_capacity_of : {D : Type 0} {disk : DiskWords D} → SplitCell D disk → ℕ
slot_capacity_of {D} {disk} cell = slot_room_on (disk.sector_count cell.disk)

abbrev pub may_leave_whole_of : {D : Type 0} {disk : DiskWords D} → SplitCell D disk → Whole → Type 0
may_leave_whole_of {D} {disk} cell = MayShow whole_on disk.may_leave disk.sector_count cell.disk

abbrev pub left_since_whole_of : {D : Type 0} {disk : DiskWords D} → SplitCell D disk → ℕ → Whole → Type 0
left_since_whole_of {D} {disk} cell = ShownSince whole_on disk.left_since disk.sector_count cell.disk

abbrev pub beside_of : {D : Type 0} {disk : DiskWords D} → ValueCall → SplitCell D disk → SplitCell D disk → Type 0
beside_of {D} {disk} call old new =
    IsCall {C = SplitCell D disk} whole_of slot_capacity_of moment_of left_since_whole_of may_leave_whole_of call old
    new

-- the bytes that reads of its disk give
abbrev pub content_of : {D : Type 0} {disk : DiskWords D} → SplitCell D disk → List ℕ
content_of {D} {disk} cell = disk.content cell.disk

-- the faults that are armed on its disk
abbrev pub armed_of : {D : Type 0} {disk : DiskWords D} → SplitCell D disk → List ArmedFault
armed_of {D} {disk} cell = disk.armed cell.disk

-- the area that the gate names begins with the frame of this header
abbrev pub HoldsHeader : List ℕ → List ℕ → Type 0
HoldsHeader value content = IsFrame value (take (frame_size (length value)) (named HEADER_SECTORS content))

-- it is ready, with the header and the slots for which the disk's content stands
pub record IsOpened {D : Type 0} {words : DiskWords D} (disk : D) (cell : SplitCell D words) : Type 0 where
  pub ready : IsTrue cell.ready
  pub value : stands_for HEADER_SECTORS (words.content disk) ≡ Some (value_of cell)
  pub holds : whole_of cell ≡ whole_on (words.sector_count disk) (words.content disk)

-- It is ready, with this header framed in area 0 and the slots as they were, and no device call is counted, nor a
-- failed one.
pub record IsFormatted {D : Type 0} {words : DiskWords D} (disk : D) (value : List ℕ) (cell : SplitCell D words)
    : Type 0 where
  pub ready : IsTrue cell.ready
  pub holds : whole_of cell ≡ with_header (Some value) (whole_on (words.sector_count disk) (words.content disk))
  pub frame : HoldsHeader value (content_of cell)
  pub gate : IsGate 0 (content_of cell)
  pub uncounted : calls_of cell ≡ 0
  pub none_failed : failed_call_of cell ≡ 0
