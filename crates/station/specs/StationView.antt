-- A station without pointers.
use Rattle.std.specs.Prelude.{ℕ, ℤ, List, map}
use Rattle.protocol.specs.World.Common.{OutletView, StationView}
use Rattle.station.specs.declared.output.Output.{Output}
use Rattle.gate_cell.specs.declared.cell.StableCell.{Ghosts as CellWords}
use Rattle.slot_cell.specs.declared.slot_cell.SlotCell.{Ghosts as SlotWords}
use Rattle.protocol.specs.Node.Common.{cell_in}
use Rattle.node.specs.NodeOf.{view_of}
use Rattle.station.specs.declared.station.Station.{Station}

abbrev pub outlet_view : {O : Type 0} → (O → List ℤ) → (O → ℕ) → Output O → OutletView
outlet_view taken failures output =
    record {
      channel = output.channel;
      taken = taken output.outlet;
      failed = output.failed;
      failures =
          failures output.outlet;
    }

abbrev pub outlet_views : {O : Type 0} → (O → List ℤ) → (O → ℕ) → List (Output O) → List OutletView
outlet_views taken failures outputs = map (outlet_view taken failures) outputs

-- a `Station` without pointers and without the contents of its cell; `taken` and `failures` are the outlets' words
abbrev pub station_view : {C O : Type 0} {cell : CellWords C} {slots : SlotWords C} → (O → List ℤ) → (O → ℕ)
    → Station C O slots cell → StationView
station_view {C} {O} {cell} {slots} taken failures station = record {
  number = station.node.number;
  node = view_of station.node;
  failures = cell.failure_count (cell_in station.node.store);
  outlets = outlet_views taken failures station.outputs.items;
  turns = station.turns;
}
