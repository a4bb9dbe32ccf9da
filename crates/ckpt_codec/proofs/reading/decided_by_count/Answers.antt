use Rattle.std.proofs.Common.{rules, refl, ◌≡◌, ◌+◌, ◌-◌, subst, sym}
use Rattle.std.proofs.lemmas.Result.{err_from_is_err_and}
use Rattle.record.specs.Common.{DecisionView}
use Rattle.ckpt_codec.specs.Reading.{so_many, decided_at, past_decision, decided_so_many}
use Rattle.ckpt_codec.proofs.Loop.{behind, one_more, stops, has_all, starts}
use Rattle.ckpt_codec.proofs.reading.decided_by_count.Goals as goal

pub loop-init : goal.loop-init
unfolding decided_so_many
loop-init c =
    starts (decided_at c.args.node c.args.nodes c.args.own) past_decision c.new-decisions.result.items c.args.count 1
    c.args.bytes.now (search rules)

pub returns-in_err-decision : goal.returns-in_err-decision
returns-in_err-decision c =
    let p = err_from_is_err_and c.from_residual.result c.from_residual.ensures.1 in
    rw (p.1, p.2)
    (stops c.in_err-decision.field-0.0 (decided_at c.args.node c.args.nodes c.args.own) past_decision
    c.loop.decisions.items c.args.count c.loop.counter c.loop.least c.loop.rest.now
    (decided_so_many c.args.node c.args.nodes c.args.own c.args.count c.args.bytes.now)
    ((decided_at c.args.node c.args.nodes c.args.own) c.loop.least c.loop.rest.now) c.loop-test.true refl
    c.in_err-decision.ensures c.loop.invariant)

pub loop-preserved : goal.loop-preserved
loop-preserved c =
    let each = decided_at c.args.node c.args.nodes c.args.own in
    let whole = decided_so_many c.args.node c.args.nodes c.args.own c.args.count c.args.bytes.now in
    subst
    (λ (d : DecisionView). behind c.push.new.self.items
    (so_many each past_decision (c.args.count - (c.loop.counter + 1)) (d.number + 1) c.in_ok-decision.after.now)
    ≡ whole) (sym c.decision.view_is)
    (one_more (decided_at c.args.node c.args.nodes c.args.own) past_decision c.loop.decisions.items
    c.push.new.self.items c.args.count c.loop.counter c.loop.least c.loop.rest.now c.in_ok-decision.decision
    c.in_ok-decision.after.now (decided_so_many c.args.node c.args.nodes c.args.own c.args.count c.args.bytes.now)
    ((decided_at c.args.node c.args.nodes c.args.own) c.loop.least c.loop.rest.now) c.loop-test.true
    c.in_ok-push.ensures.items refl c.in_ok-decision.ensures c.loop.invariant)

pub returns : goal.returns
returns c =
    has_all (decided_at c.args.node c.args.nodes c.args.own) past_decision c.loop.decisions.items c.args.count
    c.loop.counter c.loop.least c.loop.rest.now
    (decided_so_many c.args.node c.args.nodes c.args.own c.args.count c.args.bytes.now) c.loop-test.false
    c.loop.invariant
