use Rattle.std.proofs.Common.{◌≡◌, drop, map}
use Rattle.std.specs.List.{list_all}
use Rattle.protocol.specs.Node.Common.{network_of}
use Rattle.protocol.specs.World.Still.{has_let_go}
use Rattle.station.specs.StationView.{station_view}
use Rattle.station.proofs.still.have_let_go.Given as goal

-- all have let go where those have that weren't looked at yet
abbrev pub invariant-loop-outbox : goal.invariant-loop-outbox
invariant-loop-outbox g l =
    let stations = map (station_view g.O.Outlet.taken g.O.Outlet.failures) l.stations in
    list_all (has_let_go (network_of l.net.program) stations l.image) (drop l.outbox-index l.outboxes)
    ≡ list_all (has_let_go (network_of l.net.program) stations l.image) l.outboxes
