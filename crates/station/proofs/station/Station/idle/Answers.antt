use Rattle.std.proofs.Common.{rules, ◌≡◌, refl}
use Rattle.protocol.specs.Node.Common.{fits_in, cell_in}
use Rattle.node.specs.NodeOf.{view_of}
use Rattle.protocol.specs.World.Steps.{idle_plan}
use Rattle.protocol.specs.World.Common.{turns_of}
use Rattle.protocol.specs.World.Turns.{count_idle}
use Rattle.station.specs.StationView.{station_view}
use Rattle.station.proofs.Planned.{becomes, seen_moved}
use Rattle.station.proofs.station.Station.idle.Goals as goal

pub returns-clause-step : goal.returns-clause-step
returns-clause-step g c =
    let was = c.args.self.now in
    let seen = station_view {cell = g.C.StableCell} {slots = g.C.SlotCell} g.O.Outlet.taken g.O.Outlet.failures was in
    let noted : c.with_idle-self.result ≡ count_idle (turns_of c.args.round was.turns) = search rules in
    becomes (fits_in (g.C.SlotCell.slot_capacity (cell_in was.node.store))) c.args.round (idle_plan c.args.round seen) seen _
    (view_of was.node) refl _ refl (seen_moved seen _ _ _ _ _ refl noted)
