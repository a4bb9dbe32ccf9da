use Rattle.std.proofs.Common.{map}
use Rattle.protocol.specs.Node.Common.{network_of}
use Rattle.protocol.specs.World.Stances.{stance_of}
use Rattle.station.specs.StationView.{station_view}
use Rattle.world.proofs.Walks.{IsWalked}
use Rattle.world.proofs.needs.need_from.Given as goal

-- what the rest of the way needs the whole way needs
abbrev pub invariant-loop-step : goal.invariant-loop-step
invariant-loop-step g l =
    IsWalked (network_of l.net.program) (stance_of (network_of l.net.program) l.inputs.came l.rooms
    (map (station_view g.O.Outlet.taken g.O.Outlet.failures) l.stations)) l.fn.process l._step l.next l.last
