use Rattle.std.proofs.Common.{refl, ap, subst, sym, ◌∙◌}
use Rattle.protocol.specs.Node.Common.{record_in, Planned}
use Rattle.node.specs.NodeView.{node_view}
use Rattle.node.specs.Planned.{CanDo, effect_node, effect_puts, plan_view}
use Rattle.node.specs.Putting.{IsPutEvent}
use Rattle.node.specs.declared.plan.Effect.{Effect}
use Rattle.node.specs.declared.plan.Plan.{Plan}
use Rattle.node.proofs.Memory.{memory_event, memory_refused}
use Rattle.node.proofs.plan.make.Goals as goal

-- the memory alone changed
pub carry_on-requires : goal.carry_on-requires
carry_on-requires g c =
    let was = node_view (record_in c.args.store.now) c.args.state.now in
    (subst (CanDo was) c.in-Remembers.is c.requires.can).1

pub returns-in-Remembers-clause-kept : goal.returns-in-Remembers-clause-kept
returns-in-Remembers-clause-kept g c =
    let was = node_view (record_in c.args.store.now) c.args.state.now in
    let has = c.requires.kept in
    record {
      listed = has.listed;
      named = has.named;
      ready = λ up. has.ready (subst (CanDo was) c.in-Remembers.is c.requires.can).0;
      settled = has.settled;
    }

pub returns-in-Remembers-clause-event : goal.returns-in-Remembers-clause-event
returns-in-Remembers-clause-event g c =
    let old = record_in c.args.store.now in
    let was = node_view old c.args.state.now in
    memory_event g.C.StableCell g.C.SlotCell g.met.C.SlotCell.only_now_whole c.args.store.now _
    (plan_view was c.args.plan) _ c.args.round was (node_view old c.carry_on.new.state) refl refl
    (ap effect_puts c.in-Remembers.is)
    (c.carry_on.ensures old ∙ ap (λ (e : Effect). effect_node e was) (sym c.in-Remembers.is))

-- a packet was heard
pub returns-in-Hears-clause-kept : goal.returns-in-Hears-clause-kept
returns-in-Hears-clause-kept g c =
    let was = node_view (record_in c.args.store.now) c.args.state.now in
    let has = c.requires.kept in
    record {
      listed = has.listed;
      named = has.named;
      ready = λ up. has.ready (subst (CanDo was) c.in-Hears.is c.requires.can);
      settled = has.settled;
    }

pub returns-in_err-hear-in-Hears-clause-kept : goal.returns-in_err-hear-in-Hears-clause-kept
returns-in_err-hear-in-Hears-clause-kept g c =
    let was = node_view (record_in c.args.store.now) c.args.state.now in
    let has = c.requires.kept in
    record {
      listed = has.listed;
      named = has.named;
      ready = λ up. has.ready (subst (CanDo was) c.in-Hears.is c.requires.can);
      settled = has.settled;
    }

pub returns-in-Hears-clause-event : goal.returns-in-Hears-clause-event
returns-in-Hears-clause-event g c =
    let old = record_in c.args.store.now in
    let was = node_view old c.args.state.now in
    memory_event g.C.StableCell g.C.SlotCell g.met.C.SlotCell.only_now_whole c.args.store.now _
    (plan_view was c.args.plan) _ c.args.round was (node_view old c.hear.new.self) refl refl
    (ap effect_puts c.in-Hears.is)
    (c.in_ok-hear-in-Hears.ensures.ok old ∙ ap (λ (e : Effect). effect_node e was) (sym c.in-Hears.is))

pub returns-in_err-hear-in-Hears-clause-event : goal.returns-in_err-hear-in-Hears-clause-event
returns-in_err-hear-in-Hears-clause-event g c =
    let old = record_in c.args.store.now in
    memory_refused g.C.StableCell g.C.SlotCell g.met.C.SlotCell.only_now_whole c.args.store.now c.from_residual.result
    _ c.args.round (node_view old c.args.state.now) (node_view old c.hear.new.self) c.from_residual.ensures.0
    (c.in_err-hear-in-Hears.ensures.err old)

-- a change was put
pub put_then-requires-clause-can : goal.put_then-requires-clause-can
put_then-requires-clause-can g c =
    let was = node_view (record_in c.args.store.now) c.args.state.now in
    subst (CanDo was) c.in-Puts.is c.requires.can

pub returns-clause-event : goal.returns-clause-event
returns-clause-event g c =
    let was = node_view (record_in c.args.store.now) c.args.state.now in
    let said = c.args.plan.said in
    subst (λ (e : Effect). let plan : Plan = record { effect = e; said = said } in
    IsPutEvent (Planned (plan_view was plan)) c.args.round was
    (node_view (record_in c.put_then.new.store) c.put_then.new.state) c.args.store.now c.put_then.new.store
    c.put_then.result) (sym c.in-Puts.is) (c.put_then.ensures.event said.made.items said.declined.items)
