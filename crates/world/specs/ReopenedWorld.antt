-- What holds of a world that was opened over what an earlier one left, and of what comes back where none was.
use Rattle.std.specs.Prelude.{◌≡◌, ℕ, ℤ, List, map}
use Rattle.std.specs.List.{AllZip}
use Rattle.std.specs.declared.alloc.Global.{Global}
use Rattle.std.specs.declared.sync.Arc.{Arc}
use Rattle.sector_disk.specs.declared.disk.ArmedFault.{ArmedFault}
use Rattle.sector_disk.specs.declared.disk.Disk.{Ghosts as DiskWords}
use Rattle.gate_cell.specs.declared.cell.StableCell.{Ghosts as CellWords}
use Rattle.slot_cell.specs.declared.slot_cell.SlotCell.{Ghosts as SlotWords}
use Rattle.slot_cell.specs.declared.split.SplitCell.{SplitCell}
use Rattle.outlet.specs.declared.outlet.Outlet.{Ghosts as OutletWords}
use Rattle.ckpt_store.specs.Loading.{IsOfReopening}
use Rattle.protocol.specs.Node.Common.{Net, Network, network_of, RecordView, slot_room_on}
use Rattle.protocol.specs.World.Common.{AreApproximated}
use Rattle.starting_again.specs.WasLeft.{OpensOver, outputs_left}
use Rattle.station.specs.OutputView.{outputs_view}
use Rattle.station.specs.StationView.{outlet_views}
use Rattle.station.specs.declared.output.Output.{Output}
use Rattle.station.specs.declared.station.Station.{Station}
use Rattle.world.specs.Left.{AreLeft, records_on}
use Rattle.world.specs.OpeningWorld.{armed_on, AreHandedBack, calls_on, HaveOutlets, LeavesOnlyRecord}
use Rattle.world.specs.Reopening.{IsDiskAsLeft, world_again}
use Rattle.world.specs.Feeding.{none_closed}
use Rattle.world.specs.WholeView.{first_inputs, world_of}
use Rattle.world.specs.WorldView.{capacities}
use Rattle.world.specs.declared.opening.OpeningRefused.{OpeningRefused}
use Rattle.world.specs.declared.world.World.{World}

-- The world was opened over what lies on these disks, with these outputs.
pub record IsReopened {D O : Type 0} {disk : DiskWords D} {cell : CellWords (SplitCell D disk)} {slots : SlotWords (SplitCell D disk)}
    {outlet : OutletWords O} (net : Arc Net Global) (inputs : List (List ℤ)) (disks : List D)
    (outputs : List (Output O)) (world : World (SplitCell D disk) O slots cell outlet) : Type 0 where
  -- It is this world: each node is down with the record that lies on its disk, and may be recovered in any round.
  pub opening : world_of world
      ≡ world_again (network_of net.value.program) inputs (records_on disk.sector_count disk.content disks)
      (map (λ (d : D). disk.failure_count d) disks) (outlet_views outlet.taken outlet.failures outputs)
  -- So it is a fresh world over these records and outputs, and what has left by it is what had left.
  pub opens : OpensOver (network_of net.value.program) inputs (records_on disk.sector_count disk.content disks)
      (outputs_view outlet.taken outputs) (world_of world)
  pub same_left : outputs_left (world_of world) ≡ outputs_view outlet.taken outputs
  pub same : (world.net ≡ net) × (world.inputs ≡ first_inputs inputs)
  -- None of its inputs is closed.
  pub fresh_inputs : world.closed ≡ none_closed
  pub outlets : HaveOutlets (network_of net.value.program) 0 outputs world.stations.items
  -- What has left is a prefix of each channel's history.
  pub prefix : AreApproximated (world_of world)
  -- A crash leaves the records that lay there, and each cell has the room that its disk gives.
  pub left : AllZip (λ (kept : RecordView) (station : Station (SplitCell D disk) O slots cell). LeavesOnlyRecord kept station)
      (records_on disk.sector_count disk.content disks) world.stations.items
  pub room : capacities world.stations.items ≡ map (λ (d : D). slot_room_on (disk.sector_count d)) disks
  -- No fault is armed on a disk, nor disarmed, and each disk counts its calls from now on.
  pub armed : armed_on world.stations.items ≡ map (λ (d : D). disk.armed d) disks
  pub counted : calls_on world.stations.items ≡ map (λ (d : D). 0) disks

-- No world was opened over what lies on these disks, with these outputs. `sectors`, `content`, `may_leave`, `armed`
-- and `failures` are the disks' words, `taken` is the outlets'.
pub record IsNotReopened {D O : Type 0} (sectors : D → ℕ) (content : D → List ℕ) (may_leave : D → List ℕ → Type 0)
    (armed : D → List ArmedFault) (failures : D → ℕ) (taken : O → List ℤ) (net : Network) (inputs : List (List ℤ))
    (disks : List D) (outputs : List (Output O)) (refused : OpeningRefused D O) : Type 0 where
  -- Memory is missing (1), or a device failed (20).
  pub why : IsOfReopening refused.fault
  -- All that was given is back in its place: the outputs are the same; each disk holds what it held, and a crash leaves no more
  -- than it might have left; and a device failed in the call exactly where 20 is the reason.
  pub handed_back : AreHandedBack sectors failures disks refused.disks.items refused.fault
  pub as_left : AllZip (IsDiskAsLeft sectors content may_leave armed) disks refused.disks.items
  pub same_outputs : refused.outputs.items ≡ outputs
  -- So a world may be opened over it again.
  pub left : AreLeft sectors content may_leave taken net inputs refused.disks.items refused.outputs.items
