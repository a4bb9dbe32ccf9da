-- What a history of a run says is a run, and so is what a network at work on its inputs so far does: so the law speaks of
-- what programs do.
use Rattle.std.specs.Prelude.{◌≡◌, Bool, ℕ, List}
use Rattle.live.specs.Steps.{AreSteps, LiveView}
use Rattle.protocol.specs.Node.Common.{RecordView}
use Rattle.protocol.specs.World.Common.{WorldView}
use Rattle.protocol.specs.World.Coordination.{last_of}
use Rattle.replay.specs.Replay.{Happening, LeadsTo}
use Rattle.replay.specs.declared.kept.ScriptedEvent.{ScriptedEvent}
use Rattle.whole_run.specs.Runs.{EachNext, GoesOn}

-- Where what happened leads from one world to another, some worlds do, one after the other.
abbrev pub HistoriesAreRuns : Type 0
HistoriesAreRuns = (fits : List (RecordView → Bool)) (script : List ScriptedEvent) (first : WorldView)
    (happened : List Happening) (last : WorldView) → LeadsTo fits script first happened last
    → ∥ ((worlds : List WorldView) × EachNext GoesOn first worlds × (last_of first worlds ≡ last)) ∥₁

-- So it is where steps of a network at work lead from one world to another.
abbrev pub LiveStepsAreRuns : Type 0
LiveStepsAreRuns = (fits : List (RecordView → Bool)) (nodes steps : ℕ) (old new : LiveView)
    → AreSteps fits nodes steps old new
    → (worlds : List WorldView) × EachNext GoesOn old.world worlds × (last_of old.world worlds ≡ new.world)
