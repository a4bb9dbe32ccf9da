-- What is true of a world, whatever events came before.
use Rattle.std.specs.Prelude.{◌≡◌, ◌<◌, ℕ, ℤ, List, length, map, Some, slice_get}
use Rattle.kahn_net.specs.Common.{Fits, IsValid}
use Rattle.ckpt_codec.specs.Common.{node_count, Network}
use Rattle.protocol.specs.Node.NodeView.{RunningNode, running_of}
use Rattle.protocol.specs.Node.Starting.{AreInOrder}
use Rattle.protocol.specs.Join.Joined.{IsJoined}
use Rattle.protocol.specs.Join.Runs.{HasRun}
use Rattle.protocol.specs.World.OutputView.{OutputView}
use Rattle.protocol.specs.World.RecordSound.{RecordIsSound}
use Rattle.protocol.specs.World.Sound.{IsSound}
use Rattle.protocol.specs.World.StationView.{OutletView, StationView}
use Rattle.protocol.specs.World.Steps.{Setting, WorldView}
use Rattle.protocol.specs.World.Traffic.{TrafficIsSound}

-- what has left by an outlet
abbrev pub output_of : OutletView → OutputView
output_of outlet = record { channel = outlet.channel; taken = outlet.taken }

abbrev pub outputs_of : List OutletView → List OutputView
outputs_of outlets = map output_of outlets

-- A node that runs: its images are one after another, and stand on one approximation of the histories; what has left is
-- a beginning of what was put there, and its permanent image covers it.
pub record RunsSoundly (net : Network) (inputs : List (List ℤ)) (node : RunningNode) (outputs : List OutputView) : Type
    0 where
  pub order : AreInOrder node.kept node.current
  pub sound : IsSound net inputs node outputs

-- What is true of a station whatever events came before, of a network that runs on these inputs: its node can start
-- again from its record, and is sound while it runs.
pub record StationInvariant (net : Network) (inputs : List (List ℤ)) (station : StationView) : Type 0 where
  pub kept : RecordIsSound net inputs station.node.kept (outputs_of station.outlets)
  pub runs : (node : RunningNode) → running_of station.node ≡ Some node
      → RunsSoundly net inputs node (outputs_of station.outlets)

-- the same of each of these stations
abbrev pub AreSound : Network → List (List ℤ) → List StationView → Type 0
AreSound net inputs stations =
    (i : ℕ) (station : StationView) → slice_get stations i ≡ Some station → StationInvariant net inputs station

-- each of these stations has its place as its number, and the record of the node of that number
abbrev pub IsNumbered : List StationView → Type 0
IsNumbered stations =
    (i : ℕ) (station : StationView) → slice_get stations i ≡ Some station
    → (station.number ≡ i) × (station.node.kept.node ≡ i)

-- what each of these stations keeps and collects may be said to other nodes
abbrev pub AreJoined : Network → List StationView → Type 0
AreJoined net stations =
    (i : ℕ) (station : StationView) → slice_get stations i ≡ Some station → IsJoined net station

-- What is true of a world whatever events came before: its network is valid, the inputs fit it, there is one station
-- a node, by their numbers, and each one is sound; so is what is in flight between them; and steps of the abstract
-- machine of recovery lines led to it.
pub record WorldInvariant (world : WorldView) : Type 0 where
  pub valid : IsValid world.net
  pub fits : Fits world.net world.inputs
  pub count : length world.stations ≡ node_count world.net
  pub numbered : IsNumbered world.stations
  pub stations : AreSound world.net world.inputs world.stations
  pub joined : AreJoined world.net world.stations
  pub traffic : TrafficIsSound world.net world.inputs world.traffic
  pub run : ∥ HasRun world.net world.stations world.traffic ∥₁

-- what an event meets: a setting that is sound
pub record IsSoundSetting (setting : Setting) : Type 0 where
  pub valid : IsValid setting.net
  pub fits : Fits setting.net setting.inputs
  pub traffic : TrafficIsSound setting.net setting.inputs setting.traffic

-- and a station in it
pub record IsSoundStation (setting : Setting) (station : StationView) : Type 0 where
  pub inv : StationInvariant setting.net setting.inputs station
  pub named : station.node.kept.node ≡ station.number
  -- it is one of the network's nodes, and what it keeps and collects may be said
  pub below : station.number < node_count setting.net
  pub joined : IsJoined setting.net station
