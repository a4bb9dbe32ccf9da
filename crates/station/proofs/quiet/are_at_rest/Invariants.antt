use Rattle.std.proofs.Common.{◌≡◌, drop, map}
use Rattle.protocol.specs.Node.Common.{network_of}
use Rattle.protocol.specs.World.Quiet.{are_at_rest}
use Rattle.station.specs.StationView.{station_view}
use Rattle.station.proofs.quiet.are_at_rest.Given as goal

-- all are at rest where those are that weren't looked at yet
abbrev pub invariant-loop-saved : goal.invariant-loop-saved
invariant-loop-saved g l =
    let stations = map (station_view g.O.Outlet.taken g.O.Outlet.failures) l.stations in
    are_at_rest (network_of l.net.program) l.inputs.came stations l.image (drop l.saved-index l.saved-items)
    ≡ are_at_rest (network_of l.net.program) l.inputs.came stations l.image l.image.processes
