-- Disks on which records were written, and a world that begins with them. `sectors`, `content`, `may_leave`, `armed` and
-- `failures` are the words of a disk.
use Rattle.std.specs.Prelude.{◌≡◌, ◌⊎◌, ℕ, suc, ℤ, List, [], ◌∷◌, map}
use Rattle.ckpt_store.specs.declared.fault.StoreFault.TheVariants.{Device, NoMemory, TooLarge}
use Rattle.gate_cell.specs.declared.cell.StableCell.{Ghosts as CellWords}
use Rattle.outlet.specs.declared.outlet.Outlet.{Ghosts as OutletWords}
use Rattle.protocol.specs.Node.Common.{image_length, Network, RecordView, slot_room_on, StoreFault}
use Rattle.rerun.specs.Tables.{TableView}
use Rattle.resuming.specs.Images.{image_of, KeepsShares, record_of, records_there}
use Rattle.sector_disk.specs.declared.disk.ArmedFault.{ArmedFault}
use Rattle.sector_disk.specs.declared.disk.Disk.{Ghosts as DiskWords}
use Rattle.slot_cell.specs.declared.slot_cell.SlotCell.{Ghosts as SlotWords}
use Rattle.slot_cell.specs.declared.split.SplitCell.{SplitCell}
use Rattle.starting_again.specs.WasLeft.{OpensOver, outputs_left}
use Rattle.station.specs.OutputView.{outputs_view}
use Rattle.station.specs.StationView.{outlet_views}
use Rattle.station.specs.declared.output.Output.{Output}
use Rattle.world.specs.Feeding.{none_closed}
use Rattle.world.specs.Left.{HoldsRecord, record_on}
use Rattle.world.specs.OpeningWorld.{AllNumbered, HasNoRoom, HasRoom}
use Rattle.world.specs.Reopening.{world_again}
use Rattle.world.specs.WholeView.{world_of}
use Rattle.world.specs.WorldView.{capacities}
use Rattle.world.specs.declared.world.World.{World}

-- A disk holds this record, which was written there. It has the sectors that it had and failed in no call; and no fault
-- was armed there, nor disarmed.
pub record IsWritten {D : Type 0} (sectors : D → ℕ) (content : D → List ℕ) (may_leave : D → List ℕ → Type 0)
    (armed : D → List ArmedFault) (failures : D → ℕ) (kept : RecordView) (given back : D) : Type 0 where
  pub held : HoldsRecord sectors content may_leave back
  pub shows : record_on sectors content back ≡ kept
  pub room : slot_room_on (sectors back) ≡ slot_room_on (sectors given)
  pub same_failures : failures back ≡ failures given
  pub same_faults : armed back ≡ armed given
  pub fits : HasRoom (sectors given) (image_length kept.permanent)

-- the disk of the node of this number holds its record, each log of which keeps to its share
abbrev pub HoldsIts : {D : Type 0} → (D → ℕ) → (D → List ℕ) → (D → List ℕ → Type 0) → (D → List ArmedFault) → (D → ℕ)
    → Network → TableView → ℕ → D → D → Type 0
HoldsIts sectors content may_leave armed failures net t node given back =
    IsWritten sectors content may_leave armed failures (record_of net t node) given back
    × KeepsShares (image_of net t node)

-- each of these disks does, the first being of the node of this number
abbrev pub AreWritten : {D : Type 0} → (D → ℕ) → (D → List ℕ) → (D → List ℕ → Type 0) → (D → List ArmedFault) → (D → ℕ)
    → Network → TableView → ℕ → List D → List D → Type 0
AreWritten {D} sectors content may_leave armed failures net t number givens backs =
    AllNumbered (HoldsIts sectors content may_leave armed failures net t) number givens backs

-- ---- why no world begins

-- the node of this number has no place for its record on a disk of so many sectors, or one of its logs has more than its
-- share
abbrev pub HasNoPlace : Network → TableView → ℕ → ℕ → Type 0
HasNoPlace net t node sectors =
    HasNoRoom sectors (image_length (image_of net t node)) ⊎ (¬ (KeepsShares (image_of net t node)))

-- one of these nodes doesn't, the first being of this number
abbrev pub SomeHasNoPlace : Network → TableView → ℕ → List ℕ → Type 0
SomeHasNoPlace net t number [] = ⊥
SomeHasNoPlace net t number (sectors ∷ rest) = HasNoPlace net t number sectors ⊎ SomeHasNoPlace net t (suc number) rest

-- Memory is missing (1), a device failed (20), or a node has no place for its record (22).
abbrev pub IsResumingRefusal : Network → TableView → List ℕ → StoreFault → Type 0
IsResumingRefusal net t sectors fault =
    (fault ≡ NoMemory) ⊎ ((fault ≡ Device) ⊎ ((fault ≡ TooLarge) × SomeHasNoPlace net t 0 sectors))

-- ---- the world

-- A world of the network on its inputs begins where its processes were run again: each node is down, with the record that
-- its image is, and may be recovered in any round; and what has left is what these outputs took.
pub record IsResumed {D O : Type 0} {disk : DiskWords D} {cell : CellWords (SplitCell D disk)} {slots : SlotWords (SplitCell D disk)}
    {outlet : OutletWords O} (net : Network) (inputs : List (List ℤ)) (t : TableView) (disks : List D)
    (outputs : List (Output O)) (world : World (SplitCell D disk) O slots cell outlet) : Type 0 where
  pub opening : world_of world
      ≡ world_again net inputs (records_there net t) (map (λ (d : D). disk.failure_count d) disks)
      (outlet_views outlet.taken outlet.failures outputs)
  pub opens : OpensOver net inputs (records_there net t) (outputs_view outlet.taken outputs) (world_of world)
  pub same_left : outputs_left (world_of world) ≡ outputs_view outlet.taken outputs
  -- None of its inputs is closed.
  pub fresh_inputs : world.closed ≡ none_closed
  -- Each cell has the room that its disk gives.
  pub room : capacities world.stations.items ≡ map (λ (d : D). slot_room_on (disk.sector_count d)) disks
