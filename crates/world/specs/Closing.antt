-- What stations give back when their world ends.
use Rattle.std.specs.Prelude.{List, map}
use Rattle.std.specs.List.{flat_map}
use Rattle.sector_disk.specs.declared.disk.Disk.{Ghosts as DiskWords}
use Rattle.gate_cell.specs.declared.cell.StableCell.{Ghosts as CellWords}
use Rattle.slot_cell.specs.SplitCell.{disk_in}
use Rattle.slot_cell.specs.declared.slot_cell.SlotCell.{Ghosts as SlotWords}
use Rattle.slot_cell.specs.declared.split.SplitCell.{SplitCell}
use Rattle.protocol.specs.Node.Common.{cell_in}
use Rattle.station.specs.declared.output.Output.{Output}
use Rattle.station.specs.declared.station.Station.{Station}

-- the disk on which a station's record lies
abbrev pub disk_of : {D O : Type 0} {disk : DiskWords D} {cell : CellWords (SplitCell D disk)} {slots : SlotWords (SplitCell D disk)}
    → Station (SplitCell D disk) O slots cell → D
disk_of station = disk_in (cell_in station.node.store)

-- the disks of these stations, one each, in their order
abbrev pub disks_of : {D O : Type 0} {disk : DiskWords D} {cell : CellWords (SplitCell D disk)} {slots : SlotWords (SplitCell D disk)}
    → List (Station (SplitCell D disk) O slots cell) → List D
disks_of {D} {O} {disk} {cell} {slots} stations = map (λ (station : Station (SplitCell D disk) O slots cell). disk_of station) stations

-- the outputs of these stations, station by station
abbrev pub all_outputs : {C O : Type 0} {cell : CellWords C} {slots : SlotWords C} → List (Station C O slots cell) → List (Output O)
all_outputs {C} {O} {cell} {slots} stations = flat_map (λ (station : Station C O slots cell). station.outputs.items) stations
