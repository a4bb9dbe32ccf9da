use Rattle.std.proofs.Common.{List, ap, map, sym, ◌∙◌}
use Rattle.std.specs.List.{list_all}
use Rattle.std.proofs.lemmas.List.{drop_all}
use Rattle.protocol.specs.Node.Common.{network_of, running_of}
use Rattle.protocol.specs.World.Common.{outputs_of, StationView}
use Rattle.protocol.specs.World.Quiet.{is_quiet_at}
use Rattle.protocol_laws.specs.World.QuietLaws.{quiet_is_whole}
use Rattle.world.specs.WholeView.{world_of}
use Rattle.station.specs.StationView.{station_view}
use Rattle.station.specs.declared.station.Station.{Station}
use Rattle.std.proofs.Common.{arith}
use Rattle.std.proofs.lemmas.Grind.{common_steps}
use Rattle.world.proofs.world.World.complete.Goals as goal

pub returns-clause-whole : goal.returns-clause-whole
returns-clause-whole g c is =
    let now = c.args.self.now in
    let view = station_view {cell = g.C.StableCell} {slots = g.C.SlotCell} g.O.Outlet.taken g.O.Outlet.failures in
    quiet_is_whole (world_of now) now.sound
    (sym c.loop-station.invariant
    ∙ ap (λ (l : List (Station g.row.C.Denot g.row.O.Denot g.C.SlotCell g.C.StableCell)). list_all
    (λ (station : StationView). is_quiet_at (network_of now.net.value.program) now.inputs.came
    (map view now.stations.items) (running_of station.node) (outputs_of station.outlets)) (map view l))
    (drop_all c.loop-station.station-index c.deref-station-items.result.now c.loop-station-test.false))

pub loop-station-preserved : goal.loop-station-preserved
loop-station-preserved g c = grind (arith, common_steps)

pub returns-then-not-is_complete-clause-quiet : goal.returns-then-not-is_complete-clause-quiet
returns-then-not-is_complete-clause-quiet g c = grind (arith, common_steps)

pub returns-clause-quiet : goal.returns-clause-quiet
returns-clause-quiet g c = grind (arith, common_steps)
