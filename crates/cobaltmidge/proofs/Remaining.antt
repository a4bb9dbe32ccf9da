-- What is left of a run that came to no end.
use Rattle.std.proofs.Common.{ℤ, List}
use Rattle.outlet.specs.declared.outlet.Outlet.{Ghosts as OutletWords}
use Rattle.protocol.specs.Node.Common.{Network}
use Rattle.replay.specs.declared.kept.ScriptedEvent.{ScriptedEvent}
use Rattle.station.specs.declared.output.Output.{Output}
use Rattle.cobaltmidge.specs.Remaining.{HasOutputs, IsFar, IsFarFrom, IsLeft}
use Rattle.cobaltmidge.specs.FirstWorld.{first_world}
use Rattle.cobaltmidge.specs.declared.settings.Settings.{Settings}
use Rattle.cobaltmidge.specs.declared.unfinished.Left.{Left}
use Rattle.cobaltmidge.specs.declared.unfinished.Left.TheVariants as left

-- of a run that didn't begin its outlets are left
pub left_outputs : {O : Type 0} {outlet : OutletWords O} (settings : Settings) (net : Network) (inputs : List (List ℤ))
    (script : List ScriptedEvent) (outputs : List (Output O)) (it : Left O outlet) → HasOutputs outputs it
    → IsLeft settings net inputs script outputs it
left_outputs settings net inputs script outputs (left.Outputs back) has = has
left_outputs settings net inputs script outputs (left.World world history) has = absurd has

-- of one that began how far it came
pub far_of : {O : Type 0} {outlet : OutletWords O} (settings : Settings) (net : Network) (inputs : List (List ℤ))
    (script : List ScriptedEvent) (outputs : List (Output O)) (it : Left O outlet) → IsLeft settings net inputs script outputs it
    → IsFar settings net inputs script it
far_of settings net inputs script outputs (left.Outputs back) is = tt
far_of settings net inputs script outputs (left.World world history) is = is

-- of one that began with the network's first world
pub left_far : {O : Type 0} {outlet : OutletWords O} (settings : Settings) (net : Network) (inputs : List (List ℤ))
    (script : List ScriptedEvent) (outputs : List (Output O)) (it : Left O outlet)
    → IsFarFrom (first_world net inputs settings.room) settings script it → IsLeft settings net inputs script outputs it
left_far settings net inputs script outputs (left.Outputs back) is = absurd is
left_far settings net inputs script outputs (left.World world history) is = is
