-- What a disk in memory shows.
use Rattle.std.specs.Prelude.{ℕ, Bool, List, ◌∷◌, length, Option, Some, None}
use Rattle.sector_disk.specs.Images.{IsSettledBy}
use Rattle.sector_disk.specs.Past.{states_of, LeftBySome}
use Rattle.sector_disk.specs.Schedule.{FaultState}
use Rattle.sector_disk.specs.FaultSchedule.{state_of}
use Rattle.sector_disk.specs.SectorsLeft.{left_of}
use Rattle.sector_disk.specs.declared.disk.ArmedFault.{ArmedFault}
use Rattle.sector_disk.specs.declared.sectors.Sectors.{Sectors}
use Rattle.sector_disk.specs.declared.memory.MemDisk.{MemDisk}

-- the bytes that reads give
abbrev pub content_of : MemDisk → List ℕ
content_of disk = disk.sectors.bytes.items

-- for each sector whether it is in doubt
abbrev pub doubt_of : MemDisk → List Bool
doubt_of disk = disk.sectors.doubt.flags.items

-- the armed faults, the counts, and the byte by which a crash fills
abbrev pub faults_of : MemDisk → FaultState
faults_of disk = state_of disk.schedule

-- the byte by which a crash fills, where this one is given or none
abbrev pub fill_or : Option ℕ → ℕ → ℕ
fill_or (Some fill) pending = fill
fill_or None pending = pending

-- each sector in doubt is filled
abbrev pub settles_to_of : MemDisk → Option ℕ → List ℕ → Type 0
settles_to_of disk fill new = IsSettledBy (fill_or fill disk.schedule.fill) (doubt_of disk) (content_of disk) new

abbrev pub sectors_of : MemDisk → ℕ
sectors_of disk = length disk.sectors.doubt.flags.items

abbrev pub failures_of : MemDisk → ℕ
failures_of disk = disk.schedule.failures

abbrev pub calls_of : MemDisk → ℕ
calls_of disk = disk.schedule.calls

abbrev pub failed_call_of : MemDisk → ℕ
failed_call_of disk = disk.schedule.failed_call

abbrev pub armed_of : MemDisk → List ArmedFault
armed_of disk = disk.schedule.armed.items

abbrev pub may_leave_of : MemDisk → List ℕ → Type 0
may_leave_of disk = left_of disk.sectors

-- the states of its sectors before the last change, the newest first
abbrev pub past_of : MemDisk → List Sectors
past_of disk = states_of disk.past

-- how many there are
abbrev pub moment_of : MemDisk → ℕ
moment_of disk = length (past_of disk)

-- what a crash might have left of its sectors as they are, or as they have been since
abbrev pub left_since_of : MemDisk → ℕ → List ℕ → Type 0
left_since_of disk = LeftBySome left_of (disk.sectors ∷ past_of disk)
