-- What the calls of a disk do to its content, to what a crash may leave, and to its counts.
use Rattle.std.specs.Prelude.{◌<◌, min, ◌≡◌, ℕ, ◌+◌, ◌*◌, ◌%◌, ◌≤◌, List, ◌++◌, length, take, drop, Result, IsErrOf, Ok}
use Rattle.std.specs.Prelude.{Err}
use Rattle.sector_disk.specs.declared.TheConstants.{SECTOR_BYTES, GREATEST_COUNT}
use Rattle.sector_disk.specs.declared.disk.ArmedFault.{ArmedFault}
use Rattle.sector_disk.specs.declared.fault.DiskFault.{DiskFault}
use Rattle.sector_disk.specs.declared.fault.DiskFault.TheVariants.{Device, Range}

-- so many bytes are whole sectors that lie on a disk of so many sectors, from the sector `first` on
pub record IsInRange (sectors first len : ℕ) : Type 0 where
  pub whole : len % SECTOR_BYTES ≡ 0
  pub inside : SECTOR_BYTES * first + len ≤ SECTOR_BYTES * sectors

-- new is old with these bytes at this offset
abbrev pub IsOverwritten : List ℕ → ℕ → List ℕ → List ℕ → Type 0
IsOverwritten old at bytes new = new ≡ take at old ++ bytes ++ drop (at + length bytes) old

-- new may differ from old in so many bytes at this offset, and nowhere else
pub record SameOutside (start len : ℕ) (old new : List ℕ) : Type 0 where
  pub same_size : length new ≡ length old
  pub front : take start new ≡ take start old
  pub behind : drop (start + len) new ≡ drop (start + len) old

-- what a crash may leave after a call is a step away from what one might have left before it
abbrev pub OneStepFrom : {C : Type 0} → (C → Type 0) → (C → Type 0) → (C → C → Type 0) → Type 0
OneStepFrom {C} before after step = (now : C) → after now → (was : C) × before was × step was now

-- a call that leaves what reads give, and after which a crash leaves nothing that it might not have left before
pub record IsQuiet {D : Type 0} (content : D → List ℕ) (may_leave : D → List ℕ → Type 0) (old new : D) : Type 0 where
  pub same : content new ≡ content old
  pub no_more : (c : List ℕ) → may_leave new c → may_leave old c

-- as many sectors, and the same faults armed
pub record SameSetup {D : Type 0} (sector_count : D → ℕ) (armed : D → List ArmedFault) (old new : D) : Type 0 where
  pub same_sectors : sector_count new ≡ sector_count old
  pub same_faults : armed new ≡ armed old

-- no call is counted, and no failure
pub record SameCounts {D : Type 0} (failure_count call_count failed_call : D → ℕ) (old new : D) : Type 0 where
  pub failures : failure_count new ≡ failure_count old
  pub calls : call_count new ≡ call_count old
  pub failed : failed_call new ≡ failed_call old

-- the count of device calls after one with this result: each counts but one out of range
abbrev pub count_after : Result (Unit {0}) DiskFault → ℕ → ℕ
count_after (Err Range) n = n
count_after (Err Device) n = min (n + 1) GREATEST_COUNT
count_after (Ok done) n = min (n + 1) GREATEST_COUNT

-- A device call tells `Device` exactly where the count of failures rises, and then it is the last that failed.
pub record IsCounted {D : Type 0} (failure_count call_count failed_call : D → ℕ) (old new : D)
    (result : Result (Unit {0}) DiskFault) : Type 0 where
  pub fails : IsErrOf result Device → failure_count old < failure_count new
  pub works : ¬ (IsErrOf result Device) → failure_count new ≡ failure_count old
  pub calls : call_count new ≡ count_after result (call_count old)
  pub failed : IsErrOf result Device → failed_call new ≡ call_count new
  pub not_failed : ¬ (IsErrOf result Device) → failed_call new ≡ failed_call old
