-- Where the items of a run's outputs go, beside its report.
use Rattle.std.specs.Prelude.{◌≡◌, ℕ, Bool, true}
use Rattle.kahn_program.specs.declared.failure.Failure.{Failure}
use Rattle.kahn_program.specs.declared.failure.Failure.TheVariants.{Line, Whole, NotText, Unreadable, Approximation}
use Rattle.kahn_program.specs.declared.failure.Failure.TheVariants.{NoMemory, State, InUse, Unwritten, Other}
pub use Rattle.cobaltmidge.specs.KeptOutlets.{taken_streams}

-- Memory is missing; or, where what outlets take outlasts the run, one of them failed.
abbrev pub IsKeeperFailure : Bool → Failure → Type 0
IsKeeperFailure keeps (Line source line number) = ⊥
IsKeeperFailure keeps (Whole source number) = ⊥
IsKeeperFailure keeps (NotText source) = ⊥
IsKeeperFailure keeps (Unreadable source) = ⊥
IsKeeperFailure keeps (Approximation number) = ⊥
IsKeeperFailure keeps NoMemory = Unit {0}
IsKeeperFailure keeps (State number) = keeps ≡ true
IsKeeperFailure keeps InUse = ⊥
IsKeeperFailure keeps Unwritten = ⊥
IsKeeperFailure keeps (Other number) = ⊥

-- where what outlets take is refused or failed, why: by the number of the refusal
abbrev pub IsKeptFailure : (ℕ → Type 0) → Failure → Type 0
IsKeptFailure failed (Line source line number) = Unit {0}
IsKeptFailure failed (Whole source number) = Unit {0}
IsKeptFailure failed (NotText source) = Unit {0}
IsKeptFailure failed (Unreadable source) = Unit {0}
IsKeptFailure failed (Approximation number) = Unit {0}
IsKeptFailure failed NoMemory = Unit {0}
IsKeptFailure failed (State number) = failed number
IsKeptFailure failed InUse = Unit {0}
IsKeptFailure failed Unwritten = Unit {0}
IsKeptFailure failed (Other number) = Unit {0}
