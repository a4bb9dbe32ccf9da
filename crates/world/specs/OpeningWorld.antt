-- What a world is opened with: outputs, and a disk with room for the opening image; and why it isn't opened.
use Rattle.std.specs.Prelude.{◌≡◌, ◌⊎◌, ◌<◌, ◌≤◌, ℕ, suc, ℤ, List, [], ◌∷◌, filter, get_or, length, map, Some, None, IsSome}
use Rattle.std.specs.List.{AllByRecursion, AllZip}
use Rattle.protocol.specs.Node.Common.{node_count, Network, slot_room_on, Whole, RecordView, image_length, Spells}
use Rattle.protocol.specs.Node.Common.{cell_in, known_in, record_in, Store, StoreFault, opening_record}
use Rattle.ckpt_store.specs.StoreView.{Holds}
use Rattle.sector_disk.specs.declared.disk.ArmedFault.{ArmedFault}
use Rattle.sector_disk.specs.declared.disk.Disk.{Ghosts as DiskWords}
use Rattle.gate_cell.specs.declared.cell.StableCell.{Ghosts as CellWords}
use Rattle.slot_cell.specs.declared.split.SplitCell.{SplitCell}
use Rattle.slot_cell.specs.declared.TheConstants.{LEAST_SPLIT_SECTORS}
use Rattle.slot_cell.specs.declared.slot_cell.SlotCell.{Ghosts as SlotWords}
use Rattle.ckpt_codec.specs.Common.{header_of}
use Rattle.ckpt_codec.specs.HeaderText.{header_text}
use Rattle.ckpt_codec.specs.declared.version.TheConstants.{FIRST_VERSION, VERSION}
use Rattle.ckpt_store.specs.declared.fault.StoreFault.TheVariants.{NoMemory, Device, TooLarge, Reopen, Truncated}
use Rattle.ckpt_store.specs.declared.fault.StoreFault.TheVariants.{Version, Malformed, HoldsOther, PastNumber, NotHeld}
use Rattle.ckpt_store.specs.declared.fault.StoreFault.TheVariants.{Unsettled, Spent}
use Rattle.station.specs.declared.output.Output.{Output}
use Rattle.station.specs.declared.station.Station.{Station}
use Rattle.station.specs.Nodes.{Node, view_of}
use Rattle.protocol.specs.Node.Opening.{opening_node}
use Rattle.protocol.specs.World.OpeningWorld.{outlets_on, opening_station}
use Rattle.protocol.specs.World.Common.{is_output}
use Rattle.station.specs.StationView.{outlet_views}
use Rattle.station.specs.StationView.{station_view}
use Rattle.world.specs.WorldView.{HasOutlets}

-- its outlet took nothing
abbrev pub IsUnused : {O : Type 0} → (O → List ℤ) → Output O → Type 0
IsUnused taken output = taken output.outlet ≡ []

-- nothing is noted of a failure of its outlet
abbrev pub HasNotFailed : {O : Type 0} → Output O → Type 0
HasNotFailed output = output.failed ≡ None

-- its outlet is one that is made for its channel
abbrev pub IsMade : {O : Type 0} → (ℕ → O → Type 0) → Output O → Type 0
IsMade makes output = makes output.channel output.outlet

-- how many bytes spell the image that stands first on the disk of the node of this number
abbrev pub opening_length : Network → ℕ → ℕ
opening_length net number = image_length (opening_record net (node_count net) number).permanent

-- of these outputs, those of the node
abbrev pub own_outputs : {O : Type 0} → Network → ℕ → List (Output O) → List (Output O)
own_outputs {O} net home outputs = filter (λ (output : Output O). is_output net home output.channel) outputs

-- what holds of two lists place by place and of the number of the place, the first one having this number
abbrev pub AllNumbered : {A B : Type 0} → (ℕ → A → B → Type 0) → ℕ → List A → List B → Type 0
AllNumbered P number [] [] = Unit {0}
AllNumbered P number [] (y ∷ ys) = ⊥
AllNumbered P number (x ∷ xs) [] = ⊥
AllNumbered P number (x ∷ xs) (y ∷ ys) = P number x y × AllNumbered P (suc number) xs ys

-- ---- in which version a disk is formatted

-- the number of one
abbrev pub IsVersion : ℕ → Type 0
IsVersion version = (FIRST_VERSION ≤ version) × (version ≤ VERSION)

abbrev pub AreVersions : List ℕ → Type 0
AreVersions versions = AllByRecursion IsVersion versions

-- one for each of so many disks
abbrev pub AreVersionsFor : ℕ → List ℕ → Type 0
AreVersionsFor disks versions = (length versions ≡ disks) × AreVersions versions

-- the one given for the node of this number; where none is, that in which records are written
abbrev pub version_for : List ℕ → ℕ → ℕ
version_for versions number = get_or versions number VERSION

-- the cell of a store holds the header of this record in this version, which says that the permanent image is in slot 0
abbrev pub StandsInVersion : {C : Type 0} {cell : CellWords C} {slots : SlotWords C} → ℕ → RecordView → Store C slots cell → Type 0
StandsInVersion {slots = slots} version kept store =
    (slots.whole (cell_in store)).header ≡ Some (header_text version (header_of 0 kept))

-- the cells of these stations hold the headers of the opening records, from that of the node of this number on, each in the
-- version given for its node
abbrev pub AreFormatted : {C O : Type 0} {cell : CellWords C} {slots : SlotWords C} → Network → ℕ → List ℕ
    → List (Station C O slots cell) → Type 0
AreFormatted net number versions [] = Unit {0}
AreFormatted net number versions (station ∷ stations) =
    StandsInVersion (version_for versions number) (opening_record net (node_count net) number) station.node.store
    × AreFormatted net (suc number) versions stations

-- ---- room, and why a disk isn't opened

-- a disk of so many sectors has room for header and slots, and a slot for an image of so many bytes; each header fits
abbrev pub HasRoom : ℕ → ℕ → Type 0
HasRoom sectors image_len = (LEAST_SPLIT_SECTORS ≤ sectors) × (image_len ≤ slot_room_on sectors)

abbrev pub HasNoRoom : ℕ → ℕ → Type 0
HasNoRoom sectors image_len = (sectors < LEAST_SPLIT_SECTORS) ⊎ (slot_room_on sectors < image_len)

-- Why a disk of so many sectors isn't opened with an image of so many bytes: memory is missing; the disk has no room;
-- or it has, and the device failed. No other refusal comes.
abbrev pub IsOpeningRefusal : ℕ → ℕ → StoreFault → Type 0
IsOpeningRefusal sectors image_len NoMemory = Unit {0}
IsOpeningRefusal sectors image_len Device = HasRoom sectors image_len
IsOpeningRefusal sectors image_len TooLarge = HasNoRoom sectors image_len
IsOpeningRefusal sectors image_len Reopen = ⊥
IsOpeningRefusal sectors image_len Truncated = ⊥
IsOpeningRefusal sectors image_len Version = ⊥
IsOpeningRefusal sectors image_len Malformed = ⊥
IsOpeningRefusal sectors image_len HoldsOther = ⊥
IsOpeningRefusal sectors image_len PastNumber = ⊥
IsOpeningRefusal sectors image_len NotHeld = ⊥
IsOpeningRefusal sectors image_len Unsettled = ⊥
IsOpeningRefusal sectors image_len Spent = ⊥

-- disks of so many sectors have room for the opening images of the nodes from this number on
abbrev pub HaveRoom : Network → ℕ → List ℕ → Type 0
HaveRoom net number [] = Unit {0}
HaveRoom net number (sectors ∷ rest) = HasRoom sectors (opening_length net number) × HaveRoom net (suc number) rest

-- Why no world is opened on disks of so many sectors, one for each node from this number on: one of them isn't opened
-- with the record of its node, for a reason that is given above; or memory is missing.
abbrev pub IsWorldRefusal : Network → ℕ → List ℕ → StoreFault → Type 0
IsWorldRefusal net number [] fault = fault ≡ NoMemory
IsWorldRefusal net number (sectors ∷ rest) fault =
    IsOpeningRefusal sectors (opening_length net number) fault ⊎ IsWorldRefusal net (suc number) rest fault

-- a crash now leaves this record of a station, and no other
abbrev pub LeavesOnlyRecord : {C O : Type 0} {cell : CellWords C} {slots : SlotWords C} → RecordView → Station C O slots cell → Type 0
LeavesOnlyRecord {C} {O} {cell} {slots} kept station =
    (left : Whole) → slots.may_leave_whole (cell_in station.node.store) left → Spells kept left

-- the same of each of these stations: of that of the node of this number the opening record, and so on
abbrev pub LeaveOnlyRecords : {C O : Type 0} {cell : CellWords C} {slots : SlotWords C} → Network → ℕ → List (Station C O slots cell) → Type 0
LeaveOnlyRecords net number [] = Unit {0}
LeaveOnlyRecords net number (station ∷ stations) =
    LeavesOnlyRecord (opening_record net (node_count net) number) station × LeaveOnlyRecords net (suc number) stations

-- each of these stations, the first one being of the node of this number, has the outlets of those outputs that are its
-- node's
abbrev pub HaveOutlets : {C O : Type 0} {cell : CellWords C} {slots : SlotWords C} → Network → ℕ → List (Output O) → List (Station C O slots cell)
    → Type 0
HaveOutlets net number outputs [] = Unit {0}
HaveOutlets net number outputs (station ∷ stations) =
    HasOutlets (own_outputs net number outputs) station × HaveOutlets net (suc number) outputs stations

-- the faults that are armed on the devices of these stations, and how many calls each has counted
abbrev pub armed_on : {C O : Type 0} {cell : CellWords C} {slots : SlotWords C} → List (Station C O slots cell) → List (List ArmedFault)
armed_on {C} {O} {cell} {slots} stations = map (λ (station : Station C O slots cell). cell.armed (cell_in station.node.store)) stations

abbrev pub calls_on : {C O : Type 0} {cell : CellWords C} {slots : SlotWords C} → List (Station C O slots cell) → List ℕ
calls_on {C} {O} {cell} {slots} stations =
    map (λ (station : Station C O slots cell). cell.call_count (cell_in station.node.store)) stations

-- ---- what was opened

-- A store was opened on a disk that was formatted with this record, in this version: it has the record, and holds it, and its
-- slots have the room of the disk, which the record's image fits. No fault was armed on the disk, and its calls are counted from
-- now on.
pub record IsOpenedStore {D : Type 0} {disk : DiskWords D} {cell : CellWords (SplitCell D disk)} {slots : SlotWords (SplitCell D disk)}
    (kept : RecordView) (version : ℕ) (given : D) (store : Store (SplitCell D disk) slots cell) : Type 0 where
  pub shows : record_in store ≡ kept
  pub known : IsSome (known_in store)
  pub failures : cell.failure_count (cell_in store) ≡ disk.failure_count given
  pub armed : cell.armed (cell_in store) ≡ disk.armed given
  pub counted : cell.call_count (cell_in store) ≡ 0
  pub holds : Holds store kept
  pub formatted : StandsInVersion version kept store
  pub room : slots.slot_capacity (cell_in store) ≡ slot_room_on (disk.sector_count given)
  pub fits : HasRoom (disk.sector_count given) (image_length kept.permanent)

-- The node of this number, of so many, was opened on a disk that was formatted in this version: it runs from the opening
-- record, which is all that a crash leaves, and its slots have the room of the disk, which its image fits. No fault was armed on
-- the disk, and its calls are counted from now on.
pub record IsOpenedNode {D : Type 0} {disk : DiskWords D} {cell : CellWords (SplitCell D disk)} {slots : SlotWords (SplitCell D disk)} (net : Network)
    (nodes number version : ℕ) (given : D)
    (node : Node (SplitCell D disk) slots cell) : Type 0 where
  pub number_is : node.number ≡ number
  pub view : view_of node ≡ opening_node net nodes number
  pub failures : cell.failure_count (cell_in node.store) ≡ disk.failure_count given
  pub armed : cell.armed (cell_in node.store) ≡ disk.armed given
  pub counted : cell.call_count (cell_in node.store) ≡ 0
  pub left : (left : Whole) → slots.may_leave_whole (cell_in node.store) left
      → Spells (opening_record net nodes number) left
  pub formatted : StandsInVersion version (opening_record net nodes number) node.store
  pub room : slots.slot_capacity (cell_in node.store) ≡ slot_room_on (disk.sector_count given)
  pub fits : HasRoom (disk.sector_count given) (image_length (opening_record net nodes number).permanent)

-- The station of the node of this number was opened on a disk, in the version given for it, with those of the outputs that
-- are its node's: it is as it is said of an opening one, a crash leaves the opening record, and its slots have the room of
-- the disk, which its image fits. No fault was armed on the disk, and its calls are counted from now on.
pub record IsOpened {D O : Type 0} {disk : DiskWords D} {cell : CellWords (SplitCell D disk)} {slots : SlotWords (SplitCell D disk)} (taken : O → List ℤ)
    (failures : O → ℕ) (net : Network) (versions : List ℕ) (outputs : List (Output O)) (number : ℕ) (given : D)
    (station : Station (SplitCell D disk) O slots cell) : Type 0 where
  pub view : station_view taken failures station
      ≡ opening_station net (node_count net) number (disk.failure_count given)
      (outlets_on net number (outlet_views taken failures outputs))
  pub outlets : HasOutlets (own_outputs net number outputs) station
  pub left : LeavesOnlyRecord (opening_record net (node_count net) number) station
  pub formatted : StandsInVersion (version_for versions number) (opening_record net (node_count net) number)
      station.node.store
  pub room : slots.slot_capacity (cell_in station.node.store) ≡ slot_room_on (disk.sector_count given)
  pub armed : cell.armed (cell_in station.node.store) ≡ disk.armed given
  pub counted : cell.call_count (cell_in station.node.store) ≡ 0
  pub fits : HasRoom (disk.sector_count given) (opening_length net number)

-- ---- what comes back where an opening is refused; `sectors` and `failures` are the disks' words

-- Why a disk wasn't opened with an image of so many bytes; and it came back: slots on it would have the room that they had,
-- and its device failed in the call exactly where that is the reason.
pub record IsNotOpened {D : Type 0} (sectors failures : D → ℕ) (image_len : ℕ) (given back : D) (fault : StoreFault) : Type 0
  where
    pub why : IsOpeningRefusal (sectors given) image_len fault
    pub room : slot_room_on (sectors back) ≡ slot_room_on (sectors given)
    pub failed : fault ≡ Device → failures given < failures back
    pub otherwise : ¬ (fault ≡ Device) → failures back ≡ failures given

-- a disk came back: slots on it would have the room that they had, and its device hasn't failed less often
pub record IsDiskBack {D : Type 0} (sectors failures : D → ℕ) (given back : D) : Type 0 where
  pub room : slot_room_on (sectors back) ≡ slot_room_on (sectors given)
  pub more : failures given ≤ failures back

-- of disks place by place, one has failed more often
abbrev pub SomeFailed : {D : Type 0} → (D → ℕ) → List D → List D → Type 0
SomeFailed failures [] backs = ⊥
SomeFailed failures (given ∷ givens) [] = ⊥
SomeFailed failures (given ∷ givens) (back ∷ backs) =
    (failures given < failures back) ⊎ SomeFailed failures givens backs

-- the disks came back, each in its place, and a device failed in the call exactly where that is the reason
pub record AreHandedBack {D : Type 0} (sectors failures : D → ℕ) (givens backs : List D) (fault : StoreFault) : Type 0
  where
    pub each : AllZip (IsDiskBack sectors failures) givens backs
    pub failed : fault ≡ Device → SomeFailed failures givens backs
    pub otherwise : ¬ (fault ≡ Device) → map failures backs ≡ map failures givens
