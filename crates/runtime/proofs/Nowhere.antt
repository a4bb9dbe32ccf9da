-- A history of which nothing is written leads to the world with which it began.
use Rattle.std.proofs.Common.{◌≡◌, Bool, List, [], refl, sym, subst}
use Rattle.protocol.specs.Node.Common.{RecordView}
use Rattle.protocol.specs.World.Common.{WorldView}
use Rattle.replay.specs.Armed.{armed_at_first}
use Rattle.replay.specs.Replay.{Happening, LeadsTo, at_first}
use Rattle.replay.specs.declared.kept.ScriptedEvent.{ScriptedEvent}
use Rattle.run_log.specs.Happened.{HasRun}

pub leads_nowhere : (fits : List (RecordView → Bool)) (script : List ScriptedEvent) (opening here : WorldView)
    (happened : List Happening) → happened ≡ [] → here ≡ opening → LeadsTo fits script opening happened here
leads_nowhere fits script opening here happened none same =
    subst (λ (all : List Happening). LeadsTo fits script opening all here) (sym none)
    ∣ (0, armed_at_first opening, at_first (armed_at_first opening) refl, sym same) ∣₁

pub runs_nowhere : (fits : List (RecordView → Bool)) (script : List ScriptedEvent) (opening here : WorldView) → here ≡ opening
    → HasRun fits script opening here
runs_nowhere fits script opening here same = ∣ ([], leads_nowhere fits script opening here [] refl same) ∣₁
