-- The numbers of an outlet's refusals, and what a refusal says of its count of failures.
use Rattle.std.specs.Prelude.{ℕ, ◌+◌, Result, Ok, Err}
use Rattle.outlet.specs.declared.fault.OutletFault.{OutletFault}
use Rattle.outlet.specs.declared.fault.OutletFault.TheVariants.{NoMemory, Failed}

abbrev pub refusal_number : OutletFault → ℕ
refusal_number NoMemory = 1
refusal_number Failed = 60

-- an outlet's count of failures after a call with this result: one more where the outlet failed, and else the same
abbrev pub failures_after : Result (Unit {0}) OutletFault → ℕ → ℕ
failures_after (Err Failed) failures = failures + 1
failures_after (Err NoMemory) failures = failures
failures_after (Ok done) failures = failures
