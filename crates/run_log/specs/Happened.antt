-- What happened in a run, whether it is written or not.
use Rattle.std.specs.Prelude.{◌≡◌, ℕ, Bool, true, List}
use Rattle.protocol.specs.Node.Common.{RecordView}
use Rattle.protocol.specs.World.Common.{WorldView}
use Rattle.replay.specs.Armed.{ArmedView}
use Rattle.replay.specs.Replay.{Happening, IsReplay, LeadsTo}
use Rattle.replay.specs.declared.kept.ScriptedEvent.{ScriptedEvent}
use Rattle.run_log.specs.Lines.{happenings}
use Rattle.run_log.specs.declared.history.Line.{Line}

-- What happened leads from the opening world of a run to this one, with so many lines of the script passed; and where
-- it is written it is what the lines say.
pub record HasHappened (fits : List (RecordView → Bool)) (script : List ScriptedEvent) (opening : WorldView) (keeps : Bool)
    (lines : List Line) (passed : ℕ) (armed : ArmedView) : Type 0 where
  pub happened : List Happening
  pub run : IsReplay fits script opening happened passed armed
  pub written : keeps ≡ true → happenings lines ≡ happened

-- a history leads from the opening world of a run to this one
abbrev pub HasRun : List (RecordView → Bool) → List ScriptedEvent → WorldView → WorldView → Type 0
HasRun fits script opening world = ∥ ((happened : List Happening) × LeadsTo fits script opening happened world) ∥₁
