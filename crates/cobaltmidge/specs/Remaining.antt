-- What is left of a run that came to no end.
use Rattle.std.specs.Prelude.{◌≡◌, ℕ, ℤ, true, List, Some}
use Rattle.protocol.specs.Node.Common.{Network, network_of}
use Rattle.protocol.specs.World.Common.{are_quiet, WorldView}
use Rattle.outlet.specs.declared.outlet.Outlet.{Ghosts as OutletWords}
use Rattle.replay.specs.declared.kept.ScriptedEvent.{ScriptedEvent}
use Rattle.resuming.specs.CatchingUp.{failures_by, HaveGoneOn}
use Rattle.runtime.specs.Logs.{happenings}
use Rattle.station.specs.OutputView.{outputs_view}
use Rattle.station.specs.declared.output.Output.{Output}
use Rattle.world.specs.WholeView.{net_in, world_of}
use Rattle.cobaltmidge.specs.Beginning.{IsBeginning, IsBeginStop}
use Rattle.cobaltmidge.specs.Failing.{IsRunFault}
use Rattle.cobaltmidge.specs.KeptOutlets.{taken_streams}
use Rattle.cobaltmidge.specs.Runs.{HasCome, HasComeFrom, IsRun, released_streams}
use Rattle.cobaltmidge.specs.declared.settings.Settings.{Settings}
use Rattle.cobaltmidge.specs.declared.unfinished.Left.{Left}
use Rattle.cobaltmidge.specs.declared.unfinished.Left.TheVariants as left
use Rattle.cobaltmidge.specs.declared.unfinished.Unresumed.{Unresumed}
use Rattle.cobaltmidge.specs.declared.unfinished.Unresumed.TheVariants.{NotBegun, Unfinished}

module _ {O : Type 0} {outlet : OutletWords O} where
  -- these outlets, of a run that didn't begin
  abbrev pub HasOutputs : List (Output O) → Left O outlet → Type 0
  HasOutputs outputs (left.Outputs back) = back.items ≡ outputs
  HasOutputs outputs (left.World world history) = ⊥

  -- of a run that began with this world, what have left are prefixes of the outputs' histories in one approximation, and a history of the run
  -- leads to its world
  abbrev pub IsFarFrom : WorldView → Settings → List ScriptedEvent → Left O outlet → Type 0
  IsFarFrom first settings script (left.Outputs back) = ⊥
  IsFarFrom first settings script (left.World world history) =
      IsRun first.net first.inputs (released_streams first.net (world_of world).stations) (are_quiet (world_of world))
      × HasComeFrom first settings script (happenings history.lines.items) (world_of world)

  -- of a run that began, what have left are prefixes of the outputs' histories in one approximation, and a history of the run leads to its world
  abbrev pub IsFar : Settings → Network → List (List ℤ) → List ScriptedEvent → Left O outlet → Type 0
  IsFar settings net inputs script (left.Outputs back) = Unit {0}
  IsFar settings net inputs script (left.World world history) =
      IsRun net inputs (released_streams net (world_of world).stations) (are_quiet (world_of world))
      × HasCome settings net inputs script (happenings history.lines.items) (world_of world)

  -- Where the run didn't begin its outlets come back as they were handed in. Else what has left are prefixes of the outputs' histories in one
  -- approximation, and a history of the run leads to its world.
  abbrev pub IsLeft : Settings → Network → List (List ℤ) → List ScriptedEvent → List (Output O) → Left O outlet → Type 0
  IsLeft settings net inputs script outputs (left.Outputs back) = back.items ≡ outputs
  IsLeft settings net inputs script outputs (left.World world history) = IsFar settings net inputs script (left.World world history)

  -- what has left of it, which is what its outlets took
  abbrev pub streams_left : Left O outlet → List (List ℤ)
  streams_left (left.Outputs back) = taken_streams outlet.taken back.items
  streams_left (left.World world history) = released_streams (network_of (net_in world).value.program) (world_of world).stations

module _ {O : Type 0} {outlet : OutletWords O} where
  -- Why a run that was to go on behind what its outlets held, each so many items, doesn't, or comes to no end. Where it didn't begin its outlets
  -- come back, with what they took meanwhile. Else what have left are prefixes of the outputs' histories in one approximation, and a history of
  -- the run leads to its world from where it began.
  abbrev pub IsUnresumed : Settings → Network → List (List ℤ) → List ScriptedEvent → List ℕ → List (Output O) → Unresumed O outlet → Type 0
  IsUnresumed settings net inputs script held outputs (NotBegun refused) =
      IsBeginStop (failures_by outlet.failures outputs) (failures_by outlet.failures refused.outputs.items) refused.fault
      × HaveGoneOn (outputs_view outlet.taken outputs) (outputs_view outlet.taken refused.outputs.items)
  IsUnresumed settings net inputs script held outputs (Unfinished unfinished) =
      IsRunFault true unfinished.fault
      × ((first : WorldView) × IsBeginning (Some held) net inputs settings.room first
      × IsFarFrom first settings script unfinished.left)
