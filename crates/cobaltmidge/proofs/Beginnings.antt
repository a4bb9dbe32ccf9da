-- With what a run begins, and how one comes to its end.
use Rattle.std.proofs.Common.{◌≡◌, ℕ, ℤ, Bool, true, false, List, Option, Some, None, ap, subst}
use Rattle.protocol.specs.Node.Common.{Network}
use Rattle.protocol.specs.World.Common.{WorldView}
use Rattle.replay.specs.Replay.{Happening}
use Rattle.replay.specs.declared.kept.ScriptedEvent.{ScriptedEvent}
use Rattle.cobaltmidge.specs.Beginning.{BeginsBehind, held_nothing, IsBeginning}
use Rattle.cobaltmidge.specs.Runs.{IsEndFrom, IsEndOf}
use Rattle.cobaltmidge.specs.declared.settings.Settings.{Settings}

behind_same : (none : Bool) (net : Network) (inputs : List (List ℤ)) (room : ℕ) (held : List ℕ) (first : WorldView)
    → BeginsBehind none net inputs room held first → (first.net ≡ net) × (first.inputs ≡ inputs)
behind_same true net inputs room held first begins = (ap (λ (w : WorldView). w.net) begins, ap (λ (w : WorldView). w.inputs) begins)
behind_same false net inputs room held first again = (ap (λ (w : WorldView). w.net) again.is, ap (λ (w : WorldView). w.inputs) again.is)

-- it is of the network, on its inputs
pub beginning_same : (held : Option (List ℕ)) (net : Network) (inputs : List (List ℤ)) (room : ℕ) (first : WorldView)
    → IsBeginning held net inputs room first → (first.net ≡ net) × (first.inputs ≡ inputs)
beginning_same None net inputs room first begins = (ap (λ (w : WorldView). w.net) begins, ap (λ (w : WorldView). w.inputs) begins)
beginning_same (Some held) net inputs room first begins = behind_same (held_nothing held) net inputs room held first begins

-- a run comes to its end from where it began
pub end_of : (held : Option (List ℕ)) (settings : Settings) (net : Network) (inputs : List (List ℤ)) (script : List ScriptedEvent)
    (happened : List Happening) (first now : WorldView) → IsBeginning held net inputs settings.room first
    → IsEndFrom first settings first.net script happened now → IsEndOf held settings net inputs script happened now
end_of None settings net inputs script happened first now begins end =
    subst (λ (w : WorldView). IsEndFrom w settings w.net script happened now) begins end
end_of (Some held) settings net inputs script happened first now begins end = (
  first,
  begins,
  subst (λ (n : Network). IsEndFrom first settings n script happened now)
      (beginning_same (Some held) net inputs settings.room first begins).0 end,
)
