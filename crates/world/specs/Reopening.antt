-- What holds of a store, a node and a station that are opened over what lies on a disk, and of a disk that comes back.
use Rattle.std.specs.Prelude.{◌≡◌, ℕ, suc, ◌<◌, ℤ, List, [], ◌∷◌, length, map}
use Rattle.sector_disk.specs.declared.disk.ArmedFault.{ArmedFault}
use Rattle.sector_disk.specs.declared.disk.Disk.{Ghosts as DiskWords}
use Rattle.gate_cell.specs.Stands.{MayShow}
use Rattle.gate_cell.specs.declared.cell.StableCell.{Ghosts as CellWords}
use Rattle.slot_cell.specs.SplitCell.{disk_in}
use Rattle.slot_cell.specs.SplitLayout.{whole_on}
use Rattle.slot_cell.specs.declared.slot_cell.SlotCell.{Ghosts as SlotWords}
use Rattle.slot_cell.specs.declared.split.SplitCell.{SplitCell}
use Rattle.ckpt_store.specs.Loading.{IsOfReopening}
use Rattle.ckpt_store.specs.StoreView.{Holds}
use Rattle.ckpt_store.specs.declared.fault.StoreFault.TheVariants.{Device}
use Rattle.station.specs.Nodes.{Node, view_of}
use Rattle.protocol.specs.Node.Common.{cell_in, Down, Network, NodeView, Only, record_in, RecordView, slot_room_on}
use Rattle.protocol.specs.Node.Common.{Spells, Store, StoreFault, Whole}
use Rattle.protocol.specs.World.Common.{opening_traffic, OutletView, StationView, WorldView}
use Rattle.protocol.specs.World.OpeningWorld.{opening_outlet, outlets_on}
use Rattle.protocol.specs.World.Turns.{no_turns}
use Rattle.protocol.specs.Node.Sharing.{even_rooms}
use Rattle.protocol.specs.declared.limits.TheConstants.{DEFAULT_ROOM}
use Rattle.station.specs.StationView.{outlet_views, station_view}
use Rattle.station.specs.declared.output.Output.{Output}
use Rattle.station.specs.declared.station.Station.{Station}
use Rattle.world.specs.Left.{HoldsRecord, record_on}
use Rattle.world.specs.OpeningWorld.{LeavesOnlyRecord, own_outputs}
use Rattle.world.specs.WorldView.{HasOutlets}

-- ---- the world that is opened

-- a node that is down with this record, and may be recovered in any round
abbrev pub node_down : RecordView → NodeView
node_down kept = record { kept = kept; version = 0; restart = 0; armed = []; mode = Down }

-- the station of such a node, with these outlets; its device has failed so often before
abbrev pub station_down : ℕ → RecordView → ℕ → List OutletView → StationView
station_down number kept failures outlets =
    record { number = number; node = node_down kept; failures = failures; outlets = outlets; turns = no_turns 0 }

-- those of the nodes from this number on, one for each record, with those of the outlets that are its node's
abbrev pub stations_down : Network → ℕ → List RecordView → List ℕ → List OutletView → List StationView
stations_down net number [] failures outlets = []
stations_down net number (kept ∷ records) [] outlets = []
stations_down net number (kept ∷ records) (before ∷ failures) outlets =
    station_down number kept before (outlets_on net number outlets)
    ∷ stations_down net (suc number) records failures outlets

-- the world that is opened of these stations: nothing is in flight, it is in round 0, and each channel has the room
-- that holds unless it is set
abbrev pub world_again : Network → List (List ℤ) → List RecordView → List ℕ → List OutletView → WorldView
world_again net inputs records failures outlets =
    record {
      net = net;
      inputs = inputs;
      stations = stations_down net 0 records failures (map opening_outlet outlets);
      traffic = opening_traffic;
      round = 0;
      rooms = even_rooms DEFAULT_ROOM;
    }

-- ---- a disk; `sectors`, `content`, `may_leave`, `armed` and `failures` are its words

-- it holds a record, which is of the node of this number and has an entry for it
pub record HoldsItsOwn {D : Type 0} (sectors : D → ℕ) (content : D → List ℕ) (may_leave : D → List ℕ → Type 0)
    (number : ℕ) (given : D) : Type 0 where
  pub held : HoldsRecord sectors content may_leave given
  pub named : (record_on sectors content given).node ≡ number
  pub listed : number < length (record_on sectors content given).highest

-- each of these disks does, by its place
abbrev pub HoldTheirOwn : {D : Type 0} → (D → ℕ) → (D → List ℕ) → (D → List ℕ → Type 0) → ℕ → List D → Type 0
HoldTheirOwn sectors content may_leave number [] = Unit {0}
HoldTheirOwn sectors content may_leave number (given ∷ rest) =
    HoldsItsOwn sectors content may_leave number given × HoldTheirOwn sectors content may_leave (suc number) rest

-- What a disk holds is as it was: header and slots are the same, a crash leaves nothing that it might not have left before,
-- slots have the same room, and the same faults are armed. So it holds a record again.
pub record IsDiskAsLeft {D : Type 0} (sectors : D → ℕ) (content : D → List ℕ) (may_leave : D → List ℕ → Type 0)
    (armed : D → List ArmedFault) (given back : D) : Type 0 where
  pub same : whole_on (sectors back) (content back) ≡ whole_on (sectors given) (content given)
  pub no_more : (left : Whole) → MayShow whole_on may_leave sectors back left → MayShow whole_on may_leave sectors given left
  pub room : slot_room_on (sectors back) ≡ slot_room_on (sectors given)
  pub same_faults : armed back ≡ armed given
  pub held : HoldsRecord sectors content may_leave back

-- Why nothing was opened over what lies on a disk: memory is missing, or the device failed. And the disk came back, with what
-- it held; its device failed in the call exactly where that is the reason.
pub record IsDiskRefused {D : Type 0} (sectors : D → ℕ) (content : D → List ℕ) (may_leave : D → List ℕ → Type 0)
    (armed : D → List ArmedFault) (failures : D → ℕ) (given back : D) (fault : StoreFault) : Type 0 where
  pub why : IsOfReopening fault
  pub as_left : IsDiskAsLeft sectors content may_leave armed given back
  pub failed : fault ≡ Device → failures given < failures back
  pub otherwise : ¬ (fault ≡ Device) → failures back ≡ failures given

-- ---- what was opened

-- A store was opened over what lies on a disk: it has the record that lies there, and holds it; a crash leaves nothing else.
-- Nothing was written. The same faults are armed, and the disk's calls are counted from now on.
pub record IsReopenedStore {D : Type 0} {disk : DiskWords D} {cell : CellWords (SplitCell D disk)} {slots : SlotWords (SplitCell D disk)}
    (given : D) (store : Store (SplitCell D disk) slots cell) : Type 0 where
  pub shows : record_in store ≡ record_on disk.sector_count disk.content given
  pub holds : Holds store (record_on disk.sector_count disk.content given)
  pub settled : Only (slots.whole (cell_in store)) (slots.may_leave_whole (cell_in store))
  pub failures : cell.failure_count (cell_in store) ≡ disk.failure_count given
  pub armed : cell.armed (cell_in store) ≡ disk.armed given
  pub counted : cell.call_count (cell_in store) ≡ 0
  pub room : slots.slot_capacity (cell_in store) ≡ slot_room_on (disk.sector_count given)
  pub as_left : IsDiskAsLeft disk.sector_count disk.content disk.may_leave disk.armed given (disk_in (cell_in store))

-- The node of this number was opened over what lies on a disk: it is down, with the record that lies there, which is all that
-- a crash leaves.
pub record IsReopenedNode {D : Type 0} {disk : DiskWords D} {cell : CellWords (SplitCell D disk)} {slots : SlotWords (SplitCell D disk)}
    (number : ℕ) (given : D) (node : Node (SplitCell D disk) slots cell) : Type 0 where
  pub number_is : node.number ≡ number
  pub view : view_of node ≡ node_down (record_on disk.sector_count disk.content given)
  pub left : (left : Whole) → slots.may_leave_whole (cell_in node.store) left
      → Spells (record_on disk.sector_count disk.content given) left
  pub failures : cell.failure_count (cell_in node.store) ≡ disk.failure_count given
  pub armed : cell.armed (cell_in node.store) ≡ disk.armed given
  pub counted : cell.call_count (cell_in node.store) ≡ 0
  pub room : slots.slot_capacity (cell_in node.store) ≡ slot_room_on (disk.sector_count given)
  pub as_left : IsDiskAsLeft disk.sector_count disk.content disk.may_leave disk.armed given (disk_in (cell_in node.store))

-- The station of the node of this number was opened over what lies on a disk, with those of the outputs that are its node's.
pub record IsReopenedStation {D O : Type 0} {disk : DiskWords D} {cell : CellWords (SplitCell D disk)} {slots : SlotWords (SplitCell D disk)}
    (taken : O → List ℤ) (failures : O → ℕ) (net : Network) (outputs : List (Output O)) (number : ℕ) (given : D)
    (station : Station (SplitCell D disk) O slots cell) : Type 0 where
  pub view : station_view taken failures station
      ≡ station_down number (record_on disk.sector_count disk.content given) (disk.failure_count given)
      (outlets_on net number (outlet_views taken failures outputs))
  pub outlets : HasOutlets (own_outputs net number outputs) station
  pub left : LeavesOnlyRecord (record_on disk.sector_count disk.content given) station
  pub room : slots.slot_capacity (cell_in station.node.store) ≡ slot_room_on (disk.sector_count given)
  pub armed : cell.armed (cell_in station.node.store) ≡ disk.armed given
  pub counted : cell.call_count (cell_in station.node.store) ≡ 0
