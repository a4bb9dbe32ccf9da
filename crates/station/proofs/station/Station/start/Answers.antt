use Rattle.std.proofs.Common.{rules, ◌≡◌, Ok, Result, ap, map, refl, subst, sym, ◌∙◌}
use Rattle.std.specs.Prelude.{All}
use Rattle.std.specs.declared.alloc.AllocError.{AllocError}
use Rattle.protocol.specs.Node.Common.{cell_in, IsPacket, network_of, start_prospect, Prospect, next_record}
use Rattle.protocol.specs.Node.Common.{packets_by, Net}
use Rattle.protocol.specs.World.Common.{turns_by, turns_of, StationView, sending_of, all_sent, traffic_of}
use Rattle.protocol.specs.World.Turns.{count_start}
use Rattle.protocol.specs.declared.round_turns.RoundTurns.{RoundTurns}
use Rattle.node.specs.NodeOf.{view_of}
use Rattle.node.specs.Putting.{IsPutEvent}
use Rattle.node.specs.StoredView.{LeavesNext}
use Rattle.protocol.specs.declared.reply.Reply.TheVariants.{Refused, Started}
use Rattle.protocol.specs.declared.outcome.Outcome.{Outcome}
use Rattle.protocol.specs.declared.outcome.Refusal.TheVariants.{TooLarge}
use Rattle.station.specs.StationView.{outlet_views}
use Rattle.station.specs.StationView.{station_view}
use Rattle.station.proofs.Cells.{through, untouched}
use Rattle.station.proofs.Planned.{own_traffic, seen_moved, undue_silent}
use Rattle.station.specs.Lending.{net_lent}
use Rattle.std.proofs.Common.{arith}
use Rattle.std.proofs.lemmas.Grind.{elements}
use Rattle.station.proofs.station.Station.start.Goals as goal

pub carry_out-requires-clause-allowed : goal.carry_out-requires-clause-allowed
carry_out-requires-clause-allowed g c = λ came.
    let was = c.args.self.now in
    let told = c.in_ok-prospect.ensures.view
    ∙ ap (λ (n : Net). start_prospect (network_of n.program) was.node.number (view_of was.node)) c.deref.ensures in
    subst (λ (p : Prospect). All IsPacket (packets_by p came)) (sym told)
    (c.requires.allowed came)

pub returns-in_err-prospect-clause-leaves : goal.returns-in_err-prospect-clause-leaves
returns-in_err-prospect-clause-leaves g c =
    let was = c.args.self.now in
    untouched g.C.StableCell g.C.SlotCell g.met.C.SlotCell.only_now_whole was.node.store was.node.kept.settled _

pub returns-in_err-outcome-clause-leaves : goal.returns-in_err-outcome-clause-leaves
returns-in_err-outcome-clause-leaves g c =
    let was = c.args.self.now in
    let told = c.in_ok-prospect.ensures.view
    ∙ ap (λ (n : Net). start_prospect (network_of n.program) was.node.number (view_of was.node)) c.deref.ensures in
    through g.C.StableCell g.C.SlotCell was.node.store c.carry_out.new.self.node.store was.node.kept.settled
    _ (subst (λ (p : Prospect). LeavesNext (next_record p (view_of was.node).kept) was.node.store
    c.carry_out.new.self.node.store) told c.carry_out.ensures.event.any_moment)

pub returns-clause-leaves : goal.returns-clause-leaves
returns-clause-leaves g c =
    let was = c.args.self.now in
    let told = c.in_ok-prospect.ensures.view
    ∙ ap (λ (n : Net). start_prospect (network_of n.program) was.node.number (view_of was.node)) c.deref.ensures in
    through g.C.StableCell g.C.SlotCell was.node.store c.carry_out.new.self.node.store was.node.kept.settled
    _ (subst (λ (p : Prospect). LeavesNext (next_record p (view_of was.node).kept) was.node.store
    c.carry_out.new.self.node.store) told c.carry_out.ensures.event.any_moment)

pub returns-clause-come : goal.returns-clause-come
returns-clause-come g c = λ k.
    let was = c.args.self.now in
    let now = c.carry_out.new.self in
    let cell = g.C.StableCell in
    let seen = station_view g.O.Outlet.taken g.O.Outlet.failures was in
    let came = c.in_ok-outcome.outcome in
    let answer : Result Outcome AllocError = Ok came in
    let told = c.in_ok-prospect.ensures.view
    ∙ ap (λ (n : Net). start_prospect (network_of n.program) was.node.number (view_of was.node)) c.deref.ensures in
    let prospect = start_prospect (net_lent c.args.lent.now) was.node.number (view_of was.node) in
    let event : IsPutEvent prospect c.args.lent.now.round (view_of was.node) (view_of now.node) was.node.store now.node.store answer =
    subst (λ (p : Prospect). IsPutEvent p c.args.lent.now.round (view_of was.node) (view_of now.node) was.node.store now.node.store
    answer) told c.in_ok-outcome.ensures.event in
    let noted : c.with_start-noted.result ≡ count_start (turns_of c.args.lent.now.round now.turns) = search rules in
    record {
      came = came;
      step = record {
        call = cell.failed_call (cell_in now.node.store);
        step = event.step;
        put = event.put;
        answers = c.answer_by.ensures;
        allowed = c.requires.allowed came;
        same = ap (λ outputs. let view : StationView = record {
          number = now.node.number;
          node = view_of now.node;
          failures = cell.failure_count (cell_in now.node.store);
          outlets = outlet_views g.O.Outlet.taken g.O.Outlet.failures outputs.items;
          turns = c.note.new.turns;
        } in view) c.carry_out.ensures.same.1.0
            ∙ seen_moved seen _ _ _ _ _ c.carry_out.ensures.same.0 (c.note.ensures
            ∙ (ap (λ (noted : RoundTurns). turns_by noted now.turns came) noted
            ∙ ap (λ (turns : RoundTurns). turns_by (count_start (turns_of c.args.lent.now.round turns)) turns came)
            c.carry_out.ensures.same.1.1));
      };
      traffic = own_traffic c.args.lent.now.round prospect came Started (Refused TooLarge) _ (traffic_of c.args.wire.now)
          (traffic_of c.carry_out.new.wire) c.answer_by.ensures refl refl (undue_silent prospect)
          (c.in_ok-outcome.ensures.traffic ∙ ap (λ (p : Prospect). all_sent c.args.lent.now.round (map sending_of (packets_by p came))
          (traffic_of c.args.wire.now)) told);
    }

pub returns-clause-unchanged : goal.returns-clause-unchanged
returns-clause-unchanged g c = grind (arith, elements)

pub returns-clause-armed : goal.returns-clause-armed
returns-clause-armed g c = grind (arith, elements)
