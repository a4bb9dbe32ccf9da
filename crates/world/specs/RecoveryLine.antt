-- The recovery line of a world with an event: what a crash of all nodes may leave of their cells, and what is promised
-- of it.
use Rattle.std.specs.Prelude.{◌≡◌, ℕ, ℤ, List, [], ◌∷◌, map}
use Rattle.std.specs.List.{AllZip}
use Rattle.protocol.specs.Node.Common.{Network, Whole, RecordView, Spells, cell_in}
use Rattle.gate_cell.specs.declared.cell.StableCell.{Ghosts as CellWords}
use Rattle.slot_cell.specs.declared.slot_cell.SlotCell.{Ghosts as SlotWords}
use Rattle.recovery_line.specs.Line.{NotBehind}
use Rattle.protocol.specs.World.Covered.{LeavesEither}
use Rattle.protocol.specs.World.Common.{EventView, AreInLine, records_seen, records_of, Setting}
use Rattle.protocol.specs.World.RecoveryLine.{next_for}
use Rattle.station.specs.StationView.{station_view}
use Rattle.station.specs.declared.station.Station.{Station}

-- One choice for each station of what a crash leaves of its cell. Each is at a moment of its own since `old`: no clock
-- orders the moments of two cells.
abbrev pub AreLeftSince : {C O : Type 0} {cell : CellWords C} {slots : SlotWords C} → List (Station C O slots cell) → List (Station C O slots cell)
    → List Whole → Type 0
AreLeftSince [] [] [] = Unit {0}
AreLeftSince [] [] (left ∷ lefts) = ⊥
AreLeftSince [] (new ∷ news) lefts = ⊥
AreLeftSince (old ∷ olds) [] lefts = ⊥
AreLeftSince (old ∷ olds) (new ∷ news) [] = ⊥
AreLeftSince {cell = cell} {slots = slots} (old ∷ olds) (new ∷ news) (left ∷ lefts) =
    slots.left_since_whole (cell_in new.node.store) (cell.moment (cell_in old.node.store)) left × AreLeftSince olds news lefts

-- a crash now may leave this of a station's cell
abbrev pub MayBeLeft : {C O : Type 0} {cell : CellWords C} {slots : SlotWords C} → Station C O slots cell → Whole → Type 0
MayBeLeft {cell = cell} {slots = slots} station left = slots.may_leave_whole (cell_in station.node.store) left

-- Whatever a crash of all nodes leaves at moments of an event spells a record of each node, and these are in line. And
-- the line at the end of the event isn't behind the one before it.
pub record KeepsLine {C O : Type 0} {cell : CellWords C} {slots : SlotWords C} (taken : O → List ℤ) (failures : O → ℕ) (net : Network)
    (old new : List (Station C O slots cell)) : Type 0 where
  pub spelled : (lefts : List Whole) → AreLeftSince old new lefts
      → ∥ ((records : List RecordView) × AllZip Spells records lefts) ∥₁
  pub in_line : (lefts : List Whole) (records : List RecordView) → AreLeftSince old new lefts
      → AllZip Spells records lefts
      → AreInLine net (map (station_view taken failures) old) (map (station_view taken failures) new) records
  pub goes_on : NotBehind (records_seen (records_of (map (station_view taken failures) old)))
      (records_seen (records_of (map (station_view taken failures) new)))

-- One line alone is possible now: whatever a crash of all nodes leaves spells the records that the nodes keep, and no
-- others.
pub record HasOneLine {C O : Type 0} {cell : CellWords C} {slots : SlotWords C} (taken : O → List ℤ) (failures : O → ℕ)
    (stations : List (Station C O slots cell)) : Type 0 where
  pub spelled : (lefts : List Whole) → AllZip MayBeLeft stations lefts
      → ∥ AllZip Spells (records_of (map (station_view taken failures) stations)) lefts ∥₁
  pub alone : (lefts : List Whole) (records : List RecordView) → AllZip MayBeLeft stations lefts
      → AllZip Spells records lefts
      → records ≡ records_of (map (station_view taken failures) stations)

-- ---- one station

-- Whatever a crash at a moment of the event leaves of a station spells the record that it kept before, or the one that
-- the event puts there, if it puts one.
abbrev pub StaysInLine : {C O : Type 0} {cell : CellWords C} {slots : SlotWords C} → (O → List ℤ) → (O → ℕ) → Setting → EventView
    → Station C O slots cell → Station C O slots cell → Type 0
StaysInLine {cell = cell} {slots = slots} taken failures setting event old new =
    (left : Whole)
    → slots.left_since_whole (cell_in new.node.store) (cell.moment (cell_in old.node.store)) left
    → LeavesEither (station_view taken failures old).node.kept (next_for setting event (station_view taken failures old))
    left
