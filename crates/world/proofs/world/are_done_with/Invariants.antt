use Rattle.std.proofs.Common.{◌≡◌, drop, map}
use Rattle.protocol.specs.World.Steps.{are_done_with}
use Rattle.station.specs.StationView.{station_view}
use Rattle.world.proofs.world.are_done_with.Given as goal

-- the round waits for none of those that were looked at
abbrev pub invariant-loop-station : goal.invariant-loop-station
invariant-loop-station g l =
    are_done_with l.round
    (map (station_view g.O.Outlet.taken g.O.Outlet.failures) (drop l.station-index l.stations))
    ≡ are_done_with l.round (map (station_view g.O.Outlet.taken g.O.Outlet.failures) l.stations)
