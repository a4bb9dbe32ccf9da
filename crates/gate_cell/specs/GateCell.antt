-- What a cell on a disk shows. `disk` stands for the disk's own words.
use Rattle.std.specs.Prelude.{◌≡◌, ℕ, Bool, true, List, length, take, Option, Some, IsTrue}
use Rattle.sector_disk.specs.declared.disk.ArmedFault.{ArmedFault}
use Rattle.sector_disk.specs.declared.disk.Disk.{Ghosts as DiskWords}
use Rattle.sector_disk.specs.Clock.{Only}
use Rattle.gate_cell.specs.Layout.{stands_for, value_on, room_on, named, frame_size, IsGate, IsFrame}
use Rattle.gate_cell.specs.ValueCall.{ValueCall}
use Rattle.gate_cell.specs.Stands.{MayStand, StoodSince}
use Rattle.gate_cell.specs.declared.gate.GateCell.{GateCell}

-- the disk on which it lies
abbrev pub disk_in : {D : Type 0} {disk : DiskWords D} → GateCell D disk → D
disk_in cell = cell.disk

-- the value for which the disk's content stands
abbrev pub value_of : {D : Type 0} {disk : DiskWords D} → GateCell D disk → List ℕ
value_of {D} {disk} cell = value_on (disk.sector_count cell.disk) (disk.content cell.disk)

abbrev pub is_ready_of : {D : Type 0} {disk : DiskWords D} → GateCell D disk → Bool
is_ready_of cell = cell.ready

abbrev pub capacity_of : {D : Type 0} {disk : DiskWords D} → GateCell D disk → ℕ
capacity_of {D} {disk} cell = room_on (disk.sector_count cell.disk)

abbrev pub failures_of : {D : Type 0} {disk : DiskWords D} → GateCell D disk → ℕ
failures_of {D} {disk} cell = disk.failure_count cell.disk

-- the last device call that failed since the last recount, or 0
abbrev pub failed_call_of : {D : Type 0} {disk : DiskWords D} → GateCell D disk → ℕ
failed_call_of {D} {disk} cell = disk.failed_call cell.disk

abbrev pub moment_of : {D : Type 0} {disk : DiskWords D} → GateCell D disk → ℕ
moment_of {D} {disk} cell = disk.moment cell.disk

-- the values for which the contents stand that a crash may leave
abbrev pub may_leave_of : {D : Type 0} {disk : DiskWords D} → GateCell D disk → Option (List ℕ) → Type 0
may_leave_of {D} {disk} cell = MayStand disk.may_leave disk.sector_count cell.disk

abbrev pub left_since_of : {D : Type 0} {disk : DiskWords D} → GateCell D disk → ℕ → Option (List ℕ) → Type 0
left_since_of {D} {disk} cell = StoodSince disk.left_since disk.sector_count cell.disk

-- the bytes that reads of its disk give
abbrev pub content_of : {D : Type 0} {disk : DiskWords D} → GateCell D disk → List ℕ
content_of {D} {disk} cell = disk.content cell.disk

-- the faults that are armed on its disk
abbrev pub armed_of : {D : Type 0} {disk : DiskWords D} → GateCell D disk → List ArmedFault
armed_of {D} {disk} cell = disk.armed cell.disk

-- the device calls since the last recount
abbrev pub calls_of : {D : Type 0} {disk : DiskWords D} → GateCell D disk → ℕ
calls_of {D} {disk} cell = disk.call_count cell.disk

-- nothing on this disk is in doubt
abbrev pub IsDurable : {D : Type 0} → (D → List ℕ) → (D → List ℕ → Type 0) → D → Type 0
IsDurable content may_leave disk = Only (content disk) (may_leave disk)

-- nothing lies beside its value
abbrev pub nothing_beside : {D : Type 0} {disk : DiskWords D} → ValueCall → GateCell D disk → GateCell D disk → Type 0
nothing_beside call old new = Unit {0}

-- a put takes memory for the frame of its value
abbrev pub asks_memory_of : {D : Type 0} {disk : DiskWords D} → GateCell D disk → Bool
asks_memory_of cell = true

-- the area that the gate names begins with the frame of this value
abbrev pub HoldsFrame : List ℕ → ℕ → List ℕ → Type 0
HoldsFrame value size content = IsFrame value (take (frame_size (length value)) (named size content))

-- it is ready, with the value for which the disk's content stands
pub record IsOpened {D : Type 0} {words : DiskWords D} (disk : D) (cell : GateCell D words) : Type 0 where
  pub ready : IsTrue cell.ready
  pub value : stands_for (words.sector_count disk) (words.content disk) ≡ Some (value_of cell)

-- it is ready, with this value framed in area 0, and no device call is counted, nor a failed one
pub record IsFormatted {D : Type 0} {words : DiskWords D} (value : List ℕ) (cell : GateCell D words) : Type 0 where
  pub ready : IsTrue cell.ready
  pub holds : value_of cell ≡ value
  pub frame : HoldsFrame value (words.sector_count cell.disk) (content_of cell)
  pub gate : IsGate 0 (content_of cell)
  pub uncounted : calls_of cell ≡ 0
  pub none_failed : failed_call_of cell ≡ 0
