use Rattle.std.proofs.Common.{◌≡◌, drop, map}
use Rattle.protocol.specs.Node.Common.{network_of}
use Rattle.protocol.specs.World.Quiet.{have_been_put}
use Rattle.station.specs.StationView.{station_view}
use Rattle.station.proofs.quiet.have_been_put.Given as goal

-- all was put where that was which wasn't looked at yet
abbrev pub invariant-loop-saved : goal.invariant-loop-saved
invariant-loop-saved g l =
    let stations = map (station_view g.O.Outlet.taken g.O.Outlet.failures) l.stations in
    have_been_put (network_of l.net.program) stations l.image (drop l.saved-index l.saved-items)
    ≡ have_been_put (network_of l.net.program) stations l.image l.image.ends
