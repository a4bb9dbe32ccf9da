use Rattle.std.proofs.Common.{rules, refl}
use Rattle.std.proofs.lemmas.Result.{err_from_is_err_and}
use Rattle.ckpt_codec.specs.Reading.{pass_at, each_as, unchanged, so_many_passes_at}
use Rattle.ckpt_codec.proofs.Loop.{one_more, stops, has_all, starts}
use Rattle.ckpt_codec.proofs.processes.each_pass_of.Goals as goal

pub loop-init : goal.loop-init
unfolding so_many_passes_at
loop-init c =
    starts (each_as pass_at) unchanged c.new-left.result.items c.args.count tt c.args.bytes.now (search rules)

pub returns-in_err-passes : goal.returns-in_err-passes
returns-in_err-passes c =
    let p = err_from_is_err_and c.from_residual.result c.from_residual.ensures.1 in
    rw (p.1, p.2)
    (stops c.in_err-passes.field-0.0 (each_as pass_at) unchanged c.loop.left.items c.args.count c.loop.counter
    tt c.loop.rest.now (so_many_passes_at c.args.count c.args.bytes.now) ((each_as pass_at) tt c.loop.rest.now)
    c.loop-test.true refl c.in_err-passes.ensures c.loop.invariant)

pub loop-preserved : goal.loop-preserved
loop-preserved c =
    one_more (each_as pass_at) unchanged c.loop.left.items c.push.new.self.items c.args.count c.loop.counter tt
    c.loop.rest.now c.in_ok-passes.passes c.in_ok-passes.after.now (so_many_passes_at c.args.count c.args.bytes.now)
    ((each_as pass_at) tt c.loop.rest.now) c.loop-test.true c.in_ok-push.ensures.items refl c.in_ok-passes.ensures
    c.loop.invariant

pub returns : goal.returns
returns c =
    has_all (each_as pass_at) unchanged c.loop.left.items c.args.count c.loop.counter tt c.loop.rest.now
    (so_many_passes_at c.args.count c.args.bytes.now) c.loop-test.false c.loop.invariant
