-- Why streams end before their end.
use Rattle.std.specs.Prelude.{◌<◌, ◌+◌, ℕ, ℤ, List, IsTrue, length}
use Rattle.kahn_net.specs.declared.limits.TheConstants.{MAX_COUNT}
use Rattle.protocol.specs.Node.Common.{history_of}
use Rattle.protocol.specs.World.Common.{WorldView}
use Rattle.world.specs.Feeding.{is_input}
use Rattle.world.specs.declared.feeding.FeedFault.{FeedFault}
use Rattle.world.specs.declared.feeding.FeedFault.TheVariants as fault
use Rattle.stream_run.specs.declared.stopped.Stopped.{Stopped}
use Rattle.stream_run.specs.declared.stopped.Stopped.TheVariants.{NoMemory, Full, Outside}

-- An input has more items than a count goes: those with which it began, and those that came since.
pub record IsOverfull (had has : ℕ → List ℤ) (first : WorldView) : Type 0 where
  pub input : ℕ
  pub here : IsTrue (is_input first.net input)
  pub many : length (had input) + MAX_COUNT < length (history_of first.inputs input) + length (has input)

-- Memory is missing; an input is full; or what lies outside failed, for this reason.
abbrev pub IsStop : {F : Type 0} → (F → Type 0) → (ℕ → List ℤ) → (ℕ → List ℤ) → WorldView → Stopped F → Type 0
IsStop failed had has first NoMemory = Unit {0}
IsStop failed had has first Full = IsOverfull had has first
IsStop failed had has first (Outside fault) = failed fault

-- Why the streams end where an input that is open refuses what came: memory is missing, or it is full.
abbrev pub stop_by : {F : Type 0} → FeedFault → Stopped F
stop_by {F} fault.NoMemory = NoMemory
stop_by {F} fault.NoInput = Full
stop_by {F} fault.Full = Full
stop_by {F} fault.Closed = Full
