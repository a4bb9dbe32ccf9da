-- The world with which a run of a network begins.
use Rattle.std.specs.Prelude.{◌≡◌, ℕ, Bool, ℤ, List, [], map, min, max, replicate, None}
use Rattle.protocol.specs.Node.Common.{node_count, Network, slot_room_on, RecordView, fits_in, MAX_RETAINED_ITEMS, SECTORS}
use Rattle.protocol.specs.Node.Sharing.{even_rooms}
use Rattle.protocol.specs.World.Common.{opening_world, output_channels, OutletView, StationView, WorldView, with_rooms}
use Rattle.protocol.specs.declared.limits.TheConstants.{MIN_ROOM}
use Rattle.station.specs.declared.output.Output.{Output}

-- the room of the slots of each cell of a run: that of a disk of so many sectors
abbrev pub IsRunRoom : ℕ → Type 0
IsRunRoom room = room ≡ slot_room_on SECTORS

-- which records fit at each of these stations
abbrev pub run_rooms : List StationView → List (RecordView → Bool)
run_rooms stations = map (λ (station : StationView). fits_in (slot_room_on SECTORS)) stations

-- an output of which the outlet never failed
abbrev pub HasNoFailures : {O : Type 0} → (O → ℕ) → Output O → Type 0
HasNoFailures failures output = failures output.outlet ≡ 0

-- an outlet that took nothing
abbrev pub unused_outlet : ℕ → OutletView
unused_outlet channel = record { channel = channel; taken = []; failed = None; failures = 0 }

-- the room of a channel that is nearest to the one asked for
abbrev pub nearest_room : ℕ → ℕ
nearest_room asked = min (max asked MIN_ROOM) MAX_RETAINED_ITEMS

-- the world of a network on these inputs before its first turn, where this room is asked for each channel; no disk has
-- failed
abbrev pub first_world : Network → List (List ℤ) → ℕ → WorldView
first_world net inputs room =
    with_rooms (even_rooms (nearest_room room))
    (opening_world net inputs (replicate (node_count net) 0) (map unused_outlet (output_channels 0 net.channels)))
