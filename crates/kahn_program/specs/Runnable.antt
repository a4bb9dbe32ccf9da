-- Why a network on its inputs comes to no report.
use Rattle.std.specs.Prelude.{◌≡◌, ◌⊎◌, ℕ, ℤ, Bool, true, List}
use Rattle.protocol.specs.Node.Common.{Network}
use Rattle.stream_eq.specs.Limits.{HasLongHistory}
use Rattle.ckpt_store.specs.StoreFault.{refusal_number}
use Rattle.ckpt_store.specs.declared.fault.StoreFault.TheVariants as fault
use Rattle.cobaltmidge.specs.Failing.{HasFailedAtOnce}
use Rattle.cobaltmidge.specs.declared.fault.RunFault.{RunFault}
use Rattle.cobaltmidge.specs.declared.fault.RunFault.TheVariants as run_fault
use Rattle.kahn_program.specs.declared.failure.Failure.{Failure}
use Rattle.kahn_program.specs.Keeping.{IsKeeperFailure}
use Rattle.kahn_program.specs.declared.failure.Failure.TheVariants.{Line, Whole, NotText, Unreadable, Approximation}
use Rattle.kahn_program.specs.declared.failure.Failure.TheVariants.{NoMemory, State, InUse, Unwritten, Other}

-- an approximation up to the n-th has too long a history, or memory is missing
abbrev pub IsApproximationFailure : Network → List (List ℤ) → ℕ → Failure → Type 0
IsApproximationFailure net inputs n failure =
    ((failure ≡ Approximation 19) × HasLongHistory net inputs n) ⊎ (failure ≡ NoMemory)

-- what a fault of a run comes to
abbrev pub run_failure : RunFault → Failure
run_failure run_fault.NoMemory = NoMemory
run_failure run_fault.Device = Other (refusal_number fault.Device)
run_failure run_fault.PastNumber = Other (refusal_number fault.Spent)

-- Why a run comes to no report: memory is missing, also for a thread; a disk failed while its world was made (20); or, where what
-- happens is counted, a count would pass 2^63 - 1 (44).
abbrev pub IsStoreFailure : Bool → Failure → Type 0
IsStoreFailure counted (Line source line number) = ⊥
IsStoreFailure counted (Whole source number) = ⊥
IsStoreFailure counted (NotText source) = ⊥
IsStoreFailure counted (Unreadable source) = ⊥
IsStoreFailure counted (Approximation number) = ⊥
IsStoreFailure counted NoMemory = Unit {0}
IsStoreFailure counted (State number) = ⊥
IsStoreFailure counted InUse = ⊥
IsStoreFailure counted Unwritten = ⊥
IsStoreFailure counted (Other number) =
    ((number ≡ refusal_number fault.Device) × ∥ HasFailedAtOnce ∥₁)
    ⊎ ((number ≡ refusal_number fault.Spent) × (counted ≡ true))

-- one of these; or what outlasts the run is refused, or failed
abbrev pub IsReportless : Bool → Failure → Type 0
IsReportless keeps failure = IsStoreFailure true failure ⊎ IsKeeperFailure keeps failure
