use Rattle.std.proofs.Common.{ℕ, refl, ap, ◌∙◌}
use Rattle.protocol.specs.Node.Common.{fits_in, cell_in, round_later, crashed}
use Rattle.node.specs.NodeOf.{view_of}
use Rattle.protocol.specs.World.Common.{moved_to}
use Rattle.station.specs.StationView.{station_view}
use Rattle.station.proofs.Cells.{through_crash}
use Rattle.station.proofs.Crashes.{crashes}
use Rattle.station.proofs.Planned.{seen_moved}
use Rattle.station.proofs.station.Station.crash.Goals as goal

pub returns-clause-leaves : goal.returns-clause-leaves
returns-clause-leaves g c =
    let was = c.args.self.now in
    through_crash g.C.StableCell g.C.SlotCell was.node.store c.crash-was_up.new.self.store was.node.kept.settled
    c.crash-was_up.ensures.any_moment

pub returns-clause-step : goal.returns-clause-step
returns-clause-step g c =
    let was = c.args.self.now in
    let seen = station_view {cell = g.C.StableCell} {slots = g.C.SlotCell} g.O.Outlet.taken g.O.Outlet.failures was in
    let crash = c.crash-was_up.ensures in
    crashes (fits_in (g.C.SlotCell.slot_capacity (cell_in was.node.store))) c.args.round
    (round_later c.args.round c.args.rounds) seen _ _ c.crash-was_up.result crash.up
    (λ up. crash.step up ∙ ap (λ (n : ℕ). crashed n (view_of was.node)) c.round_later.ensures) (λ down. (crash.unchanged down).1)
    (seen_moved seen _ _ _ _ _ crash.same_number refl
    ∙ ap (λ (f : ℕ). moved_to (view_of c.crash-was_up.new.self) f was.turns seen) crash.failures) c.crash_reply.ensures
