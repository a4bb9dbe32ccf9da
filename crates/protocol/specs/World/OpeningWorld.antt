-- A world before its first event.
use Rattle.std.specs.Prelude.{ℕ, suc, ℤ, List, [], ◌∷◌, map, filter, None}
use Rattle.ckpt_codec.specs.Common.{node_count, Network}
use Rattle.protocol.specs.Node.Opening.{opening_node}
use Rattle.protocol.specs.Node.Sharing.{even_rooms}
use Rattle.protocol.specs.World.Sound.{is_output}
use Rattle.protocol.specs.World.StationView.{OutletView, StationView}
use Rattle.protocol.specs.World.Steps.{WorldView}
use Rattle.protocol.specs.World.Turns.{no_turns}
use Rattle.wire.specs.Traffic.{opening_traffic}
use Rattle.protocol.specs.declared.limits.TheConstants.{DEFAULT_ROOM}

-- the outlet is as it was given, and has failed in no round
abbrev pub opening_outlet : OutletView → OutletView
opening_outlet outlet =
    record { channel = outlet.channel; taken = outlet.taken; failed = None; failures = outlet.failures }

-- of these outlets, those whose channel is an output of the node
abbrev pub outlets_on : Network → ℕ → List OutletView → List OutletView
outlets_on net home outlets = filter (λ (outlet : OutletView). is_output net home outlet.channel) outlets

-- the station of the node of this number, of so many, with these outlets; its device has failed so often before
abbrev pub opening_station : Network → ℕ → ℕ → ℕ → List OutletView → StationView
opening_station net nodes number failures outlets =
    record {
      number = number;
      node = opening_node net nodes number;
      failures = failures;
      outlets = outlets;
      turns =
          no_turns 0;
    }

-- the stations of the nodes from this number on, of so many: one for each device that has failed so often before, with
-- those of the outlets that are its node's
abbrev pub stations_from : Network → ℕ → ℕ → List ℕ → List OutletView → List StationView
stations_from net nodes number [] outlets = []
stations_from net nodes number (failures ∷ rest) outlets =
    opening_station net nodes number failures (outlets_on net number outlets)
    ∷ stations_from net nodes (suc number) rest outlets

-- one station a node, in order of their numbers; `failures` says how often the device of each has failed before
abbrev pub opening_stations : Network → List ℕ → List OutletView → List StationView
opening_stations net failures outlets = stations_from net (node_count net) 0 failures outlets

-- The world before its first event: these stations, with the outlets of the network's outputs as they were given;
-- nothing in flight; and the room that each channel has unless it is set.
abbrev pub opening_world : Network → List (List ℤ) → List ℕ → List OutletView → WorldView
opening_world net inputs failures outlets =
    record {
      net = net;
      inputs = inputs;
      stations =
          opening_stations net failures (map opening_outlet outlets);
      traffic = opening_traffic;
      round = 0;
      rooms = even_rooms DEFAULT_ROOM;
    }
