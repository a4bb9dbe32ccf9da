-- A network at work without pointers.
use Rattle.gate_cell.specs.declared.cell.StableCell.{Ghosts as CellWords}
use Rattle.slot_cell.specs.declared.slot_cell.SlotCell.{Ghosts as SlotWords}
use Rattle.outlet.specs.declared.outlet.Outlet.{Ghosts as OutletWords}
use Rattle.std.specs.Prelude.{ℕ, ℤ, Bool, List, option_map, replicate, slice_index_or}
use Rattle.std.specs.declared.alloc.Global.{Global}
use Rattle.std.specs.declared.sync.Arc.{Arc}
use Rattle.kahn_net.specs.declared.limits.TheConstants.{MAX_CHANNELS}
use Rattle.protocol.specs.Node.Common.{Net, RecordView}
use Rattle.protocol.specs.World.Common.{WorldView}
use Rattle.station.specs.declared.station.Station.{Station}
use Rattle.world.specs.Events.{shared_view}
use Rattle.world.specs.WholeView.{bases_in, closed_in, inputs_in, net_in, nodes_in, rooms_in, stations_in, world_of}
use Rattle.live.specs.Steps.{LiveView}
use Rattle.live.specs.declared.live.Live.{Live}

module _ {C O : Type 0} {cell : CellWords C} {slots : SlotWords C} {outlet : OutletWords O} where
  -- its world
  abbrev pub world_on : Live C O slots cell outlet → WorldView
  world_on live = world_of live.world

  abbrev pub net_on : Live C O slots cell outlet → Arc Net Global
  net_on live = net_in live.world

  abbrev pub inputs_on : Live C O slots cell outlet → List (List ℤ)
  inputs_on live = inputs_in live.world

  -- how many items of each were let go of
  abbrev pub bases_on : Live C O slots cell outlet → List ℕ
  bases_on live = bases_in live.world

  abbrev pub closed_on : Live C O slots cell outlet → List Bool
  closed_on live = closed_in live.world

  abbrev pub rooms_on : Live C O slots cell outlet → List (RecordView → Bool)
  rooms_on live = rooms_in live.world

  abbrev pub nodes_on : Live C O slots cell outlet → ℕ
  nodes_on live = nodes_in live.world

  abbrev pub stations_on : Live C O slots cell outlet → List (Station C O slots cell)
  stations_on live = stations_in live.world

  -- its world, whose turn is next, and the job that is out
  abbrev pub live_view : Live C O slots cell outlet → LiveView
  live_view live = record { world = world_on live; node = live.node; out = option_map shared_view live.out }

  -- how many items of an output were taken
  abbrev pub taken_of : Live C O slots cell outlet → ℕ → ℕ
  taken_of live output = slice_index_or live.taken output 0

-- none was
abbrev pub none_taken : List ℕ
none_taken = replicate MAX_CHANNELS 0
