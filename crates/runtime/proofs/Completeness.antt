-- A world of a run that was found complete was so in a world to which a history of the run leads.
use Rattle.std.proofs.Common.{◌≡◌, ◌∙◌, ℕ, Bool, true, List, refl, sym}
use Rattle.std.proofs.Math.Logic.{∥∥₁_map}
use Rattle.protocol.specs.Node.Common.{RecordView}
use Rattle.protocol.specs.World.Common.{WorldView, are_quiet}
use Rattle.replay.specs.Armed.{ArmedView}
use Rattle.replay.specs.declared.kept.ScriptedEvent.{ScriptedEvent}
use Rattle.run_log.specs.Happened.{HasHappened}
use Rattle.run_log.specs.declared.history.Line.{Line}
use Rattle.runtime.specs.Ending.{HasBeenComplete}

pub has_been : (fits : List (RecordView → Bool)) (script : List ScriptedEvent) (opening : WorldView) (keeps : Bool)
    (lines : List Line) (passed : ℕ) (armed : ArmedView) (complete : Bool)
    → ∥ HasHappened fits script opening keeps lines passed armed ∥₁ → complete ≡ are_quiet armed.world
    → complete ≡ true → HasBeenComplete fits script opening
has_been fits script opening keeps lines passed armed complete run is so =
    ∥∥₁_map run (λ r. (armed.world, ∣ (r.happened, ∣ (passed, armed, r.run, refl) ∣₁) ∣₁, sym is ∙ so))
