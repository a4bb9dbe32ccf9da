use Rattle.std.proofs.Common.{◌≡◌, drop, map}
use Rattle.std.specs.List.{list_all}
use Rattle.protocol.specs.Node.Common.{network_of, running_of}
use Rattle.protocol.specs.World.Common.{outputs_of, are_quiet, StationView, traffic_of}
use Rattle.protocol.specs.World.Quiet.{is_quiet_at}
use Rattle.station.specs.StationView.{station_view}
use Rattle.world.specs.WorldView.{world_view}
use Rattle.world.proofs.world.World.complete.Given as goal

-- all are quiet where those are that weren't looked at yet
abbrev pub invariant-loop-station : goal.invariant-loop-station
invariant-loop-station g l =
    let O = g.O.Outlet in
    list_all
    (λ (station : StationView). is_quiet_at (network_of l.self.net.value.program) l.self.inputs.came
    (map (station_view O.taken O.failures) l.self.stations.items) (running_of station.node)
    (outputs_of station.outlets))
    (map (station_view O.taken O.failures) (drop l.station-index l.station-items))
    ≡ are_quiet
    (world_view O.taken O.failures l.self.net l.self.inputs l.self.stations.items (traffic_of l.self.wire)
    l.self.round l.self.channel_rooms)
