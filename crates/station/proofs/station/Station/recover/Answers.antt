use Rattle.std.proofs.Common.{Ok, Result, ap, subst, ◌∙◌}
use Rattle.std.specs.declared.alloc.AllocError.{AllocError}
use Rattle.protocol.specs.Node.Common.{cell_in, restart_after, next_record, packets_by, recover_prospect, Net}
use Rattle.protocol.specs.Node.Common.{network_of}
use Rattle.node.specs.NodeOf.{view_of}
use Rattle.node.specs.NodeView.{mode_view}
use Rattle.protocol.specs.World.Common.{answer_by, back_reply, ReplyView}
use Rattle.node.specs.Putting.{IsPutEvent}
use Rattle.node.specs.StoredView.{LeavesNext}
use Rattle.protocol.specs.declared.outcome.Outcome.{Outcome}
use Rattle.protocol.specs.declared.reply.Reply.TheVariants.{Refused}
use Rattle.protocol.specs.declared.outcome.Refusal.TheVariants.{TooLarge}
use Rattle.protocol.specs.World.Steps.{recover_plan}
use Rattle.protocol_laws.specs.World.DeedLaws.{recover_sends}
use Rattle.station.specs.StationView.{station_view}
use Rattle.station.proofs.Cells.{through}
use Rattle.station.proofs.Planned.{answer_then, back_mode, seen_moved, silent_allowed, turns_kept}
use Rattle.station.specs.Lending.{net_lent}
use Rattle.std.proofs.Common.{arith}
use Rattle.std.proofs.lemmas.Grind.{elements}
use Rattle.station.proofs.station.Station.recover.Goals as goal

pub returns-in-Err-clause-leaves : goal.returns-in-Err-clause-leaves
returns-in-Err-clause-leaves g c =
    let was = c.args.self.now in
    through g.C.StableCell g.C.SlotCell was.node.store c.recover.new.self.store was.node.kept.settled
    _ (subst (λ (n : Net). LeavesNext (next_record (recover_prospect (network_of n.program) was.node.number
    (view_of was.node)) (view_of was.node).kept) was.node.store c.recover.new.self.store) c.deref.ensures
    c.recover.ensures.event.any_moment)

pub returns-in-Ok-clause-leaves : goal.returns-in-Ok-clause-leaves
returns-in-Ok-clause-leaves g c =
    let was = c.args.self.now in
    through g.C.StableCell g.C.SlotCell was.node.store c.recover.new.self.store was.node.kept.settled
    _ (subst (λ (n : Net). LeavesNext (next_record (recover_prospect (network_of n.program) was.node.number
    (view_of was.node)) (view_of was.node).kept) was.node.store c.recover.new.self.store) c.deref.ensures
    c.recover.ensures.event.any_moment)

pub returns-in-Ok-clause-step : goal.returns-in-Ok-clause-step
returns-in-Ok-clause-step g c =
    let was = c.args.self.now in
    let cell = g.C.StableCell in
    let call = cell.failed_call (cell_in c.recover.new.self.store) in
    let seen = station_view g.O.Outlet.taken g.O.Outlet.failures was in
    let came = c.in-Ok.outcome in
    let answer : Result Outcome AllocError = Ok came in
    let event : IsPutEvent (recover_prospect (net_lent c.args.lent.now) was.node.number (view_of was.node))
    c.args.lent.now.round (view_of was.node) (view_of c.recover.new.self) was.node.store c.recover.new.self.store
    answer =
    subst (λ (n : Net). IsPutEvent (recover_prospect (network_of n.program) was.node.number (view_of was.node))
    c.args.lent.now.round (view_of was.node) (view_of c.recover.new.self) was.node.store c.recover.new.self.store
    answer) c.deref.ensures c.in-Ok.ensures.event in
    let mode = mode_view c.recover.new.self.state.mode in (
      came,
      record {
        call = call;
        step = event.step;
        put = event.put;
        answers = c.answer_by.ensures
            ∙ (ap (λ (r : ReplyView). answer_by r (Refused TooLarge) came) c.back_reply-back.ensures
            ∙ answer_then (back_reply mode) (recover_plan (net_lent c.args.lent.now) seen).answer (Refused TooLarge) came
            (λ made. ap back_reply
            (back_mode (net_lent c.args.lent.now) was.node.number (restart_after (view_of was.node).armed call c.args.lent.now.round) (view_of was.node)
            (view_of c.recover.new.self) came event.step made)));
        allowed = silent_allowed (packets_by (recover_plan (net_lent c.args.lent.now) seen).prospect came)
            (recover_sends (net_lent c.args.lent.now) was.node.number (view_of was.node) came);
        same = seen_moved seen _ _ _ _ _ c.recover.ensures.same_number (turns_kept was.turns came);
      },
    )

pub returns-in-Err-clause-refused : goal.returns-in-Err-clause-refused
returns-in-Err-clause-refused g c = grind (arith, elements)

pub returns-in-Ok-clause-unchanged : goal.returns-in-Ok-clause-unchanged
returns-in-Ok-clause-unchanged g c = grind (arith, elements)

pub returns-in-Ok-clause-armed : goal.returns-in-Ok-clause-armed
returns-in-Ok-clause-armed g c = grind (arith, elements)
