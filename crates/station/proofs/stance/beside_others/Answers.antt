use Rattle.std.proofs.Common.{map, true, false}
use Rattle.protocol.specs.Node.Common.{network_of, running_node}
use Rattle.protocol.specs.World.Common.{outputs_of}
use Rattle.node.specs.Memory.{running_view}
use Rattle.station.specs.StationView.{outlet_views, station_view}
use Rattle.station.proofs.Stances.{held_beside, full_beside}
use Rattle.station.proofs.stance.beside_others.Goals as goal

pub returns-then-is_leaving : goal.returns-then-is_leaving
returns-then-is_leaving g c =
    λ kept version. held_beside (network_of c.args.net.now.program)
    (map (station_view g.O.Outlet.taken g.O.Outlet.failures) c.args.stations.now)
    (running_node kept version (running_view c.args.running.now))
    (outputs_of (outlet_views g.O.Outlet.taken g.O.Outlet.failures c.args.outputs.now)) c.in-Held.channel c.args.stance
    c.is_leaving.result true (c.is_leaving.ensures kept version) c.if-is_leaving.true c.in-Held.is

pub returns-else-is_leaving : goal.returns-else-is_leaving
returns-else-is_leaving g c =
    λ kept version. held_beside (network_of c.args.net.now.program)
    (map (station_view g.O.Outlet.taken g.O.Outlet.failures) c.args.stations.now)
    (running_node kept version (running_view c.args.running.now))
    (outputs_of (outlet_views g.O.Outlet.taken g.O.Outlet.failures c.args.outputs.now)) c.in-Held.channel c.args.stance
    c.is_leaving.result false (c.is_leaving.ensures kept version) c.if-is_leaving.false c.in-Held.is

pub returns-then-is_leaving-2 : goal.returns-then-is_leaving-2
returns-then-is_leaving-2 g c =
    λ kept version. full_beside (network_of c.args.net.now.program)
    (map (station_view g.O.Outlet.taken g.O.Outlet.failures) c.args.stations.now)
    (running_node kept version (running_view c.args.running.now))
    (outputs_of (outlet_views g.O.Outlet.taken g.O.Outlet.failures c.args.outputs.now)) c.in-Full.channel c.args.stance
    c.is_leaving-in-Full.result true (c.is_leaving-in-Full.ensures kept version) c.if-is_leaving-2.true c.in-Full.is

pub returns-else-is_leaving-2 : goal.returns-else-is_leaving-2
returns-else-is_leaving-2 g c =
    λ kept version. full_beside (network_of c.args.net.now.program)
    (map (station_view g.O.Outlet.taken g.O.Outlet.failures) c.args.stations.now)
    (running_node kept version (running_view c.args.running.now))
    (outputs_of (outlet_views g.O.Outlet.taken g.O.Outlet.failures c.args.outputs.now)) c.in-Full.channel c.args.stance
    c.is_leaving-in-Full.result false (c.is_leaving-in-Full.ensures kept version) c.if-is_leaving-2.false c.in-Full.is
