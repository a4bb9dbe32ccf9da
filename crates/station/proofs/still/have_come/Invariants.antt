use Rattle.std.proofs.Common.{◌≡◌, drop, map}
use Rattle.std.specs.List.{list_all}
use Rattle.protocol.specs.Node.Common.{network_of}
use Rattle.protocol.specs.World.Still.{has_come_from}
use Rattle.station.specs.StationView.{station_view}
use Rattle.station.proofs.still.have_come.Given as goal

-- all has come where it has at those that weren't looked at yet
abbrev pub invariant-loop-inbox : goal.invariant-loop-inbox
invariant-loop-inbox g l =
    let stations = map (station_view g.O.Outlet.taken g.O.Outlet.failures) l.stations in
    list_all (has_come_from (network_of l.net.program) stations) (drop l.inbox-index l.inboxes)
    ≡ list_all (has_come_from (network_of l.net.program) stations) l.inboxes
