use Rattle.std.proofs.Common.{rules, refl}
use Rattle.std.proofs.lemmas.Result.{err_from_is_err_and}
use Rattle.ckpt_codec.specs.Reading.{count_at, each_as, unchanged, entries_at}
use Rattle.ckpt_codec.proofs.Loop.{one_more, stops, has_all, starts}
use Rattle.ckpt_codec.proofs.reading.entries_of.Goals as goal

pub loop-init : goal.loop-init
unfolding entries_at
loop-init c =
    starts (each_as count_at) unchanged c.new-entries.result.items c.args.count tt c.args.bytes.now (search rules)

pub returns-in_err-entry : goal.returns-in_err-entry
returns-in_err-entry c =
    let p = err_from_is_err_and c.from_residual.result c.from_residual.ensures.1 in
    rw (p.1, p.2)
    (stops c.in_err-entry.field-0.0 (each_as count_at) unchanged c.loop.entries.items c.args.count c.loop.counter
    tt c.loop.rest.now (entries_at c.args.count c.args.bytes.now) ((each_as count_at) tt c.loop.rest.now)
    c.loop-test.true refl c.in_err-entry.ensures c.loop.invariant)

pub loop-preserved : goal.loop-preserved
loop-preserved c =
    one_more (each_as count_at) unchanged c.loop.entries.items c.push.new.self.items c.args.count c.loop.counter tt
    c.loop.rest.now c.in_ok-entry.entry c.in_ok-entry.after.now (entries_at c.args.count c.args.bytes.now)
    ((each_as count_at) tt c.loop.rest.now) c.loop-test.true c.in_ok-push.ensures.items refl c.in_ok-entry.ensures
    c.loop.invariant

pub returns : goal.returns
returns c =
    has_all (each_as count_at) unchanged c.loop.entries.items c.args.count c.loop.counter tt c.loop.rest.now
    (entries_at c.args.count c.args.bytes.now) c.loop-test.false c.loop.invariant
