-- What a run came to of which what left is kept.
use Rattle.std.specs.Prelude.{◌≡◌, ℕ, ℤ, Bool, List, Some, length}
use Rattle.protocol.specs.Node.Common.{Network}
use Rattle.protocol.specs.World.Common.{WorldView, are_quiet}
use Rattle.replay.specs.declared.kept.ScriptedEvent.{ScriptedEvent}
use Rattle.runtime.specs.Logs.{happenings}
use Rattle.runtime.specs.Ending.{IsOver}
use Rattle.cobaltmidge.specs.Reasons.{IsReasonOf}
use Rattle.cobaltmidge.specs.Released.{AreReleased, lists_of}
use Rattle.cobaltmidge.specs.Runs.{IsEndOf, IsRun, bounds_of, released_streams}
use Rattle.cobaltmidge.specs.declared.kept_run.KeptRun.{KeptRun}
use Rattle.cobaltmidge.specs.declared.settings.Settings.{Settings}
use Rattle.cobaltmidge.specs.declared.state_error.StateFault.{StateFault}
use Rattle.cobaltmidge.specs.declared.state_error.StateFault.TheVariants.{Unread, NotText, Refused, Files, Kept}

-- The world at the run's end, of which all is told. The run went on behind what its outputs held, each so many items, as `held` says. What
-- has left are prefixes of the outputs' histories in one approximation, and where the run is complete whole, in the least solution. It is
-- kept, as `kept` says.
pub record IsKeptRun (settings : Settings) (net : Network) (inputs : List (List ℤ)) (script : List ScriptedEvent)
    (held : List ℕ → Type 0) (kept : List (List ℤ) → Type 0) (run : KeptRun) : Type 0 where
  pub now : WorldView
  pub counts : List ℕ
  pub were_held : held counts
  pub is_run : IsRun net inputs (released_streams net now.stations) (are_quiet now)
  pub is_end : IsEndOf (Some counts) settings net inputs script (happenings run.history.lines.items) now
  pub over : IsOver net.channels (bounds_of settings) now run.end
  pub reason : IsReasonOf now run.end settings run.reason
  pub complete : run.complete ≡ are_quiet now
  pub released : AreReleased (length net.channels) now (lists_of run.lists.items)
  pub has_kept : kept (released_streams net now.stations)

-- What had left of a run that came to no end: prefixes of the outputs' histories in one approximation. It is kept, as `kept` says.
pub record IsKeptSoFar (net : Network) (inputs : List (List ℤ)) (kept : List (List ℤ) → Type 0) : Type 0 where
  pub streams : List (List ℤ)
  pub complete : Bool
  pub is_run : IsRun net inputs streams complete
  pub has_kept : kept streams

-- Where it was the run that was refused, what had left of it is kept.
abbrev pub IsKeptWhereRefused : Network → List (List ℤ) → (List (List ℤ) → Type 0) → StateFault → Type 0
IsKeptWhereRefused net inputs kept (Unread fault) = Unit {0}
IsKeptWhereRefused net inputs kept NotText = Unit {0}
IsKeptWhereRefused net inputs kept (Refused error) = ∥ IsKeptSoFar net inputs kept ∥₁
IsKeptWhereRefused net inputs kept (Files fault) = Unit {0}
IsKeptWhereRefused net inputs kept (Kept fault) = Unit {0}
