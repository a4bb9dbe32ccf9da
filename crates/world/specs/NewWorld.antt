-- What holds of a world that was just made, and of what comes back where none was.
use Rattle.std.specs.Prelude.{◌≡◌, ◌⊎◌, ◌↔◌, ℕ, ℤ, List, length, map}
use Rattle.std.specs.declared.alloc.Global.{Global}
use Rattle.std.specs.declared.sync.Arc.{Arc}
use Rattle.sector_disk.specs.declared.disk.Disk.{Ghosts as DiskWords}
use Rattle.gate_cell.specs.declared.cell.StableCell.{Ghosts as CellWords}
use Rattle.slot_cell.specs.declared.slot_cell.SlotCell.{Ghosts as SlotWords}
use Rattle.slot_cell.specs.declared.split.SplitCell.{SplitCell}
use Rattle.outlet.specs.declared.outlet.Outlet.{Ghosts as OutletWords}
use Rattle.ckpt_store.specs.declared.fault.StoreFault.TheVariants.{Version}
use Rattle.protocol.specs.Node.Common.{Net, Network, network_of, slot_room_on}
use Rattle.protocol.specs.World.Common.{AreApproximated, opening_world}
use Rattle.station.specs.StationView.{outlet_views}
use Rattle.station.specs.declared.output.Output.{Output}
use Rattle.world.specs.OpeningWorld.{armed_on, calls_on, AreFormatted, AreHandedBack, AreVersionsFor, HaveOutlets}
use Rattle.world.specs.OpeningWorld.{HaveRoom, IsWorldRefusal, LeaveOnlyRecords}
use Rattle.world.specs.Feeding.{none_closed}
use Rattle.world.specs.WholeView.{first_inputs, world_of}
use Rattle.world.specs.WorldView.{capacities}
use Rattle.world.specs.declared.opening.OpeningRefused.{OpeningRefused}
use Rattle.world.specs.declared.world.World.{World}

-- The world was made on these disks, with these outputs. `versions` are those in which the disks are formatted; a node for which
-- none is given has its disk in the one in which records are written.
pub record IsNew {D O : Type 0} {disk : DiskWords D} {cell : CellWords (SplitCell D disk)} {slots : SlotWords (SplitCell D disk)}
    {outlet : OutletWords O} (net : Arc Net Global) (inputs : List (List ℤ)) (versions : List ℕ) (disks : List D)
    (outputs : List (Output O)) (world : World (SplitCell D disk) O slots cell outlet) : Type 0 where
  -- It is the opening world of the network and the inputs, with the outlets that were given.
  pub opening : world_of world
      ≡ opening_world (network_of net.value.program) inputs (map (λ (d : D). disk.failure_count d) disks)
      (outlet_views outlet.taken outlet.failures outputs)
  pub same : (world.net ≡ net) × (world.inputs ≡ first_inputs inputs)
  -- None of its inputs is closed.
  pub fresh_inputs : world.closed ≡ none_closed
  pub outlets : HaveOutlets (network_of net.value.program) 0 outputs world.stations.items
  -- What has left is a prefix of each channel's history.
  pub prefix : AreApproximated (world_of world)
  -- A crash leaves the opening records, and each cell has the room that its disk gives.
  pub left : LeaveOnlyRecords (network_of net.value.program) 0 world.stations.items
  -- Each header stands in the version of its disk.
  pub formatted : AreFormatted (network_of net.value.program) 0 versions world.stations.items
  pub room : capacities world.stations.items ≡ map (λ (d : D). slot_room_on (disk.sector_count d)) disks
  -- No fault is armed on a disk, nor disarmed, and each disk counts its calls from now on.
  pub armed : armed_on world.stations.items ≡ map (λ (d : D). disk.armed d) disks
  pub counted : calls_on world.stations.items ≡ map (λ (d : D). 0) disks
  -- It is made only on disks with room for those records.
  pub fits : HaveRoom (network_of net.value.program) 0 (map (λ (d : D). disk.sector_count d) disks)

-- ---- no world was made; `sectors` and `failures` are the disks' words

-- No world was made of this network on these disks, with these outputs.
pub record IsNotNew {D O : Type 0} (sectors failures : D → ℕ) (net : Network) (disks : List D) (outputs : List (Output O))
    (refused : OpeningRefused D O) : Type 0 where
  -- Memory is missing; or a disk has no room for its record (22); or one has, and its device failed (20).
  pub why : IsWorldRefusal net 0 (map (λ (d : D). sectors d) disks) refused.fault
  -- All that was given is back in its place: the outputs are the same; each disk has the room that it had; and a device
  -- failed in the call exactly where 20 is the reason.
  pub handed_back : AreHandedBack sectors failures disks refused.disks.items refused.fault
  pub same_outputs : refused.outputs.items ≡ outputs

-- No world was made where these versions were given for the disks.
pub record IsNotNewFrom {D O : Type 0} (sectors failures : D → ℕ) (net : Network) (versions : List ℕ) (disks : List D)
    (outputs : List (Output O)) (refused : OpeningRefused D O) : Type 0 where
  -- 31 where there isn't a version for each disk, before anything is done with one; and no other reasons than the above.
  pub version : (refused.fault ≡ Version) ↔ (¬ (AreVersionsFor (length disks) versions))
  pub untouched : refused.fault ≡ Version → refused.disks.items ≡ disks
  pub why : (refused.fault ≡ Version) ⊎ IsWorldRefusal net 0 (map (λ (d : D). sectors d) disks) refused.fault
  pub handed_back : AreHandedBack sectors failures disks refused.disks.items refused.fault
  pub same_outputs : refused.outputs.items ≡ outputs
