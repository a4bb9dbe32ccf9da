-- Which device calls of a disk in memory fail, and by which byte a crash fills.
use Rattle.std.specs.Prelude.{◌≡◌, ◌||◌, ℕ, ◌+◌, ◌==◌, true, min, nat_le, nat_lt, if◌then◌else◌, List, [], ◌∷◌, ◌++◌, Option, Some, None, find}
use Rattle.std.specs.List.{list_all}
use Rattle.sector_disk.specs.declared.TheConstants.{GREATEST_COUNT}
use Rattle.sector_disk.specs.declared.disk.ArmedFault.{ArmedFault}

-- the faults that are armed, in the order of arming; the calls since the last recount; all failures; the last call that
-- failed since the last recount, or 0; and the byte by which a crash fills
pub record FaultState : Type 0 where
  pub armed : List ArmedFault
  pub calls : ℕ
  pub failures : ℕ
  pub failed_call : ℕ
  pub fill : ℕ

-- nothing is armed or counted
abbrev pub no_faults : FaultState
no_faults = record { armed = []; calls = 0; failures = 0; failed_call = 0; fill = 0 }

-- no fault is armed for a call behind so many calls and before the next one
abbrev pub IsNoneBefore : ℕ → ℕ → List ArmedFault → Type 0
IsNoneBefore next calls armed = list_all (λ (fault : ArmedFault). nat_le fault.call calls || nat_le next fault.call) armed ≡ true

abbrev pub next_count : ℕ → ℕ
next_count calls = min (calls + 1) GREATEST_COUNT

-- the fault that the call with this count meets: the first that is armed for it; none once the failures are counted out
abbrev pub fault_at : List ArmedFault → ℕ → ℕ → Option ArmedFault
fault_at armed count failures =
    if nat_lt failures GREATEST_COUNT then find (λ fault. fault.call == count) armed else None

-- the fault that the next device call meets
abbrev pub fault_met : FaultState → Option ArmedFault
fault_met s = fault_at s.armed (next_count s.calls) s.failures

-- the call counts, and meets this fault or none: where it meets one it fails, and a crash is to fill by that fault's
-- byte
abbrev pub after_meeting : Option ArmedFault → FaultState → FaultState
after_meeting None s = record s { calls = next_count s.calls }
after_meeting (Some fault) s = record s {
  calls = next_count s.calls;
  failures = s.failures + 1;
  failed_call = next_count s.calls;
  fill = fault.fill;
}

-- one device call later
abbrev pub after_call : FaultState → FaultState
after_call s = after_meeting (fault_met s) s

-- the call that was counted last has failed, though no fault was armed for it
abbrev pub after_failing : FaultState → FaultState
after_failing s = record s { failures = s.failures + 1; failed_call = s.calls }

-- a crash has used up the fill
abbrev pub after_crash : FaultState → FaultState
after_crash s = record s { fill = 0 }

abbrev pub after_arming : ArmedFault → FaultState → FaultState
after_arming fault s = record s { armed = s.armed ++ fault ∷ [] }

-- what is armed stays armed, for the counts that begin now
abbrev pub after_recount : FaultState → FaultState
after_recount s = record s { calls = 0; failed_call = 0 }
