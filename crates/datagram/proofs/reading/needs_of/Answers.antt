use Rattle.std.proofs.lemmas.Result.{err_from_is_err_and}
use Rattle.datagram.specs.Reading.{needs_at}
use Rattle.datagram.proofs.Loop.{one_more, stops, has_all}
use Rattle.datagram.proofs.reading.needs_of.Goals as goal

pub returns-in_err-need : goal.returns-in_err-need
returns-in_err-need c =
    let p = err_from_is_err_and c.from_residual.result c.from_residual.ensures.1 in
    rw (p.1, p.2)
    (stops c.in_err-need.field-0.0 c.loop.needs c.args.count c.loop.counter c.loop.rest.now
    (needs_at c.args.count c.args.bytes.now) c.loop-test.true c.in_err-need.ensures c.loop.invariant)

pub loop-preserved : goal.loop-preserved
loop-preserved c =
    rw c.in_ok-push.ensures.ok
    (one_more c.loop.needs c.args.count c.loop.counter c.loop.rest.now c.in_ok-need.need c.in_ok-need.after.now
    (needs_at c.args.count c.args.bytes.now) c.loop-test.true c.in_ok-need.ensures c.loop.invariant)

pub returns : goal.returns
returns c =
    has_all c.loop.needs c.args.count c.loop.counter c.loop.rest.now (needs_at c.args.count c.args.bytes.now)
    c.loop-test.false c.loop.invariant
