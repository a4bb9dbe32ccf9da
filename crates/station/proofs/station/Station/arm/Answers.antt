use Rattle.std.proofs.Common.{ℕ, refl, ap, ◌∙◌}
use Rattle.protocol.specs.Node.Common.{fits_in, cell_in, with_armed, NodeView}
use Rattle.node.specs.NodeOf.{view_of}
use Rattle.protocol.specs.World.Common.{moved_to}
use Rattle.protocol.specs.World.Steps.{arm_plan}
use Rattle.station.specs.StationView.{station_view}
use Rattle.station.proofs.Planned.{becomes, seen_moved}
use Rattle.station.proofs.Cells.{through_crash}
use Rattle.std.proofs.Common.{arith}
use Rattle.std.proofs.lemmas.Grind.{elements}
use Rattle.station.proofs.station.Station.arm.Goals as goal

pub returns-in-Ok-clause-leaves : goal.returns-in-Ok-clause-leaves
returns-in-Ok-clause-leaves g c =
    let was = c.args.self.now in
    through_crash g.C.StableCell g.C.SlotCell was.node.store c.arm.new.self.store was.node.kept.settled c.arm.ensures.any_moment

pub returns-in-Err-clause-leaves : goal.returns-in-Err-clause-leaves
returns-in-Err-clause-leaves g c =
    let was = c.args.self.now in
    through_crash g.C.StableCell g.C.SlotCell was.node.store c.arm.new.self.store was.node.kept.settled c.arm.ensures.any_moment

pub returns-in-Ok-clause-step : goal.returns-in-Ok-clause-step
returns-in-Ok-clause-step g c =
    let was = c.args.self.now in
    let seen = station_view {cell = g.C.StableCell} {slots = g.C.SlotCell} g.O.Outlet.taken g.O.Outlet.failures was in
    let call = c.args.fault.call in
    becomes (fits_in (g.C.SlotCell.slot_capacity (cell_in was.node.store))) c.args.round (arm_plan call c.args.rounds seen)
    seen _ (with_armed call c.args.rounds seen.node) refl _ refl
    (seen_moved seen _ _ _ _ _ c.arm.ensures.same_number refl
    ∙ (ap (λ (f : ℕ). moved_to (view_of c.arm.new.self) f was.turns seen) c.arm.ensures.failures
    ∙ ap (λ (n : NodeView). moved_to n seen.failures was.turns seen) c.in-Ok.ensures.armed))

pub returns-in-Err-clause-refused : goal.returns-in-Err-clause-refused
returns-in-Err-clause-refused g c = grind (arith, elements)
