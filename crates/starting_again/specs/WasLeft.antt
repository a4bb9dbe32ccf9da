-- That records and outlets are such as a world may leave, and a fresh world over them.
use Rattle.std.specs.Prelude.{◌≡◌, ℕ, ℤ, List, [], filter, length, map, Some, slice_get}
use Rattle.std.specs.List.{flat_map}
use Rattle.protocol.specs.Join.Joined.{KeepsNodes}
use Rattle.protocol.specs.Node.Common.{Down, Fits, IsValid, Network, node_count, RecordView}
use Rattle.protocol.specs.World.Common.{flights_to, is_output, output_channels, outputs_of, OutputView, RecordIsSound}
use Rattle.protocol.specs.World.Common.{records_of, released_of, StationView, WorldInvariant, WorldView}
use Rattle.protocol.specs.World.Released.{IsStreamOf}

-- ---- what a world leaves

-- an output of these stations, with all that has left there
abbrev pub output_left : List StationView → ℕ → OutputView
output_left stations c = record { channel = c; taken = released_of c stations }

-- the outputs of a world with what has left, by channel
abbrev pub outputs_left : WorldView → List OutputView
outputs_left world = map (output_left world.stations) (output_channels 0 world.net.channels)

-- of these outputs, those of the node
abbrev pub outputs_at : Network → ℕ → List OutputView → List OutputView
outputs_at net home outputs = filter (λ (output : OutputView). is_output net home output.channel) outputs

-- A world of this network on these inputs, of which all is true that is true whatever events came before, has these
-- records, by node, and these outputs, by channel.
pub record IsLeftBy (net : Network) (inputs : List (List ℤ)) (records : List RecordView) (outputs : List OutputView)
    (world : WorldView) : Type 0 where
  pub true_before : WorldInvariant world
  pub same_net : world.net ≡ net
  pub same_inputs : world.inputs ≡ inputs
  pub records_are : records_of world.stations ≡ records
  pub outputs_are : outputs_left world ≡ outputs

-- Some world of this network on these inputs, of which all is true that is true whatever events came before, left
-- these records, by node, and these outputs, by channel. It may be a world at the end of an event, or one that never
-- was: what an event leaves where its device fails behind the put.
abbrev pub WasLeft : Network → List (List ℤ) → List RecordView → List OutputView → Type 0
WasLeft net inputs records outputs = ∥ ((world : WorldView) × IsLeftBy net inputs records outputs world) ∥₁

-- What is true of such records and outputs by themselves: the network is valid and the inputs fit it; there is a record
-- for each node, by number, and an output for each of the network's, by channel; each node can start again from its
-- record with the outputs that are there, and what the record keeps may be said to other nodes; and what has left of
-- each output is a prefix of its channel's history in some approximation. All of that can be looked at, but for how the
-- images come about; that the records of all nodes fit together is `WasLeft` alone.
pub record AreSoundByThemselves (net : Network) (inputs : List (List ℤ)) (records : List RecordView)
    (outputs : List OutputView) : Type 0 where
  pub valid : IsValid net
  pub fits : Fits net inputs
  pub each : length records ≡ node_count net
  pub listed : map (λ (output : OutputView). output.channel) outputs ≡ output_channels 0 net.channels
  pub named : (node : ℕ) (kept : RecordView) → slice_get records node ≡ Some kept → kept.node ≡ node
  pub sound : (node : ℕ) (kept : RecordView) → slice_get records node ≡ Some kept
      → RecordIsSound net inputs kept (outputs_at net node outputs)
  pub joined : (node : ℕ) (kept : RecordView) → slice_get records node ≡ Some kept → KeepsNodes net node kept
  pub streams : (j : ℕ) (output : OutputView) → slice_get outputs j ≡ Some output
      → IsStreamOf net inputs output.channel output.taken

-- The outputs that stations give back, in any order, are those that their world left once they stand by channel.
abbrev pub outputs_by_station : List StationView → List OutputView
outputs_by_station stations = flat_map (λ (station : StationView). outputs_of station.outlets) stations

-- ---- a fresh world

-- the station at a place, over these outputs: its node is down
pub record OpensAt (net : Network) (outputs : List OutputView) (place : ℕ) (station : StationView) : Type 0 where
  pub number : station.number ≡ place
  pub down : station.node.mode ≡ Down
  pub outputs_are : outputs_of station.outlets ≡ outputs_at net place outputs

-- A fresh world over these records, by node, and these outputs, by channel: each output is at the node that puts there,
-- all nodes are down, and nothing is in flight. All else is any, as in `WorldStartsAgain`.
pub record OpensOver (net : Network) (inputs : List (List ℤ)) (records : List RecordView) (outputs : List OutputView)
    (new : WorldView) : Type 0 where
  pub same_net : new.net ≡ net
  pub same_inputs : new.inputs ≡ inputs
  pub records_are : records_of new.stations ≡ records
  pub stations : (place : ℕ) (station : StationView) → slice_get new.stations place ≡ Some station
      → OpensAt net outputs place station
  pub nothing : (to : ℕ) → flights_to new.traffic to ≡ []
