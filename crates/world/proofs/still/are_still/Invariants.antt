use Rattle.std.proofs.Common.{◌≡◌, drop, map}
use Rattle.std.specs.List.{list_all}
use Rattle.protocol.specs.Node.Common.{network_of}
use Rattle.protocol.specs.World.Still.{is_still}
use Rattle.station.specs.StationView.{station_view}
use Rattle.world.proofs.still.are_still.Given as goal

-- all stand still where those do that weren't looked at yet
abbrev pub invariant-loop-station : goal.invariant-loop-station
invariant-loop-station g l =
    let view = station_view g.O.Outlet.taken g.O.Outlet.failures in
    let still = is_still (network_of l.net.program) l.inputs.came l.rooms (map view l.stations) in
    list_all still (map view (drop l.station-index l.stations)) ≡ list_all still (map view l.stations)
