-- What an event leaves of a station's cell, and of the device below it.
use Rattle.std.specs.Prelude.{ℕ, ◌≡◌, ◌≤◌, ◌++◌, List, [], ◌∷◌, Option, Some}
use Rattle.sector_disk.specs.declared.disk.ArmedFault.{ArmedFault}
use Rattle.gate_cell.specs.declared.cell.StableCell.{Ghosts as CellWords}
use Rattle.slot_cell.specs.declared.slot_cell.SlotCell.{Ghosts as SlotWords}
use Rattle.protocol.specs.Node.Common.{cell_in, restart_after}
use Rattle.node.specs.NodeOf.{view_of}
use Rattle.node.specs.StoredView.{LeavesAsBefore}
use Rattle.protocol.specs.World.Common.{EventView, ByNode, ReplyView}
use Rattle.protocol.specs.declared.event.Deed.TheVariants as event
use Rattle.station.specs.declared.station.Station.{Station}

-- a station's cell wasn't touched
abbrev pub IsCellUnchanged : {C O : Type 0} {cell : CellWords C} {slots : SlotWords C} → Station C O slots cell
    → Station C O slots cell → Type 0
IsCellUnchanged old new = cell_in new.node.store ≡ cell_in old.node.store

-- The node of a station whose device failed in an event of this round may be recovered after as many rounds as were
-- armed with the call that failed, by the first fault armed for it, and one round later where there was none.
abbrev pub RestartsAsArmed : {C O : Type 0} {cell : CellWords C} {slots : SlotWords C} → ℕ → Station C O slots cell
    → Station C O slots cell → Type 0
RestartsAsArmed {cell = cell} {slots = slots} round old new =
    (view_of new.node).restart
    ≡ restart_after (view_of old.node).armed (cell.failed_call (cell_in new.node.store)) round

-- the faults that are armed behind an event and its answer: an `Arm` that isn't refused puts its own behind them
abbrev pub armed_then : EventView → Option ReplyView → List ArmedFault → List ArmedFault
armed_then (ByNode k (event.Arm fault rounds)) (Some answer) faults = faults ++ (fault ∷ [])
armed_then event answer faults = faults

-- What an event leaves of a station's device besides what it holds: no other fault is armed, nor one disarmed, and no
-- device call that was counted is forgotten.
abbrev pub LeavesDeviceBy : {C O : Type 0} {cell : CellWords C} {slots : SlotWords C} → EventView → Option ReplyView
    → Station C O slots cell
    → Station C O slots cell → Type 0
LeavesDeviceBy {cell = cell} {slots = slots} event answer old new =
    (cell.armed (cell_in new.node.store) ≡ armed_then event answer (cell.armed (cell_in old.node.store)))
    × (cell.call_count (cell_in old.node.store) ≤ cell.call_count (cell_in new.node.store))

-- What a recovery and the arming of a fault leave where they are refused: they may have called the device by then. Every
-- other event that is refused hasn't touched its cell.
abbrev pub LeavesWhatItFound : {C O : Type 0} {cell : CellWords C} {slots : SlotWords C} → EventView
    → Station C O slots cell → Station C O slots cell → Type 0
LeavesWhatItFound (ByNode k event.Recover) old new = LeavesAsBefore old.node.store new.node.store
LeavesWhatItFound (ByNode k (event.Arm fault rounds)) old new = LeavesAsBefore old.node.store new.node.store
LeavesWhatItFound event old new = Unit {0}
