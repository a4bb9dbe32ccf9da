-- A world with armed crashes without pointers.
use Rattle.gate_cell.specs.declared.cell.StableCell.{Ghosts as CellWords}
use Rattle.slot_cell.specs.declared.slot_cell.SlotCell.{Ghosts as SlotWords}
use Rattle.outlet.specs.declared.outlet.Outlet.{Ghosts as OutletWords}
use Rattle.replay.specs.Armed.{ArmedView}
use Rattle.world.specs.WholeView.{world_of}
use Rattle.run_log.specs.declared.armed.ArmedWorld.{ArmedWorld}

abbrev pub armed_view : {C O : Type 0} {cell : CellWords C} {slots : SlotWords C} {outlet : OutletWords O}
    → ArmedWorld C O slots cell outlet → ArmedView
armed_view {C} {O} {cell} {slots} {outlet} armed =
    record { world = world_of armed.world; deliveries = armed.deliveries.items; crashes = armed.crashes }
