use Rattle.std.proofs.lemmas.Grind.{elements}
use Rattle.std.proofs.Common.{arith}
use Rattle.std.proofs.lemmas.Result.{err_from_is_err_and}
use Rattle.std.proofs.lemmas.Option.{slice_get-get_or}
use Rattle.net_check.proofs.Ending.{end_fault_among, joined_next}
use Rattle.net_check.proofs.join.join_all.Goals as goal

pub returns-in_err-check_ends-clause-err : goal.returns-in_err-check_ends-clause-err
returns-in_err-check_ends-clause-err c =
    let p = err_from_is_err_and c.from_residual.result c.from_residual.ensures.1 in
    let n = c.requires.producers in
    let m = c.requires.consumers in
    rw (p.1, p.2)
    (end_fault_among c.args.channels.now _ _ c.loop-c.c c.index-channels-c.result _ _ _ (omega arith)
    c.index-channels-c.is (slice_get-get_or c.args.producers.now c.loop-c.c _ (omega arith))
    (slice_get-get_or c.args.consumers.now c.loop-c.c _ (omega arith)) c.in_err-check_ends.ensures.err)

pub loop-c-preserved : goal.loop-c-preserved
loop-c-preserved c =
    let n = c.requires.producers in
    let m = c.requires.consumers in
    let out = c.in_ok-push.ensures.items in
    rw out (joined_next c.args.channels.now c.args.producers.now c.args.consumers.now c.loop-c.joined.items c.loop-c.c
    c.index-channels-c.result _ (omega arith) c.index-channels-c.is
    (slice_get-get_or c.args.producers.now c.loop-c.c _ (omega arith))
    (slice_get-get_or c.args.consumers.now c.loop-c.c _ (omega arith)) c.in_ok-check_ends.ensures.ok
    c.loop-c.invariant)

pub returns-clause-err : goal.returns-clause-err
returns-clause-err c = grind (arith, elements)

pub returns-clause-ok : goal.returns-clause-ok
returns-clause-ok c = grind (arith, elements)

pub returns-in_err-check_ends-clause-ok : goal.returns-in_err-check_ends-clause-ok
returns-in_err-check_ends-clause-ok c = grind (arith, elements)

pub returns-in_err-push-clause-err : goal.returns-in_err-push-clause-err
returns-in_err-push-clause-err c = grind (arith, elements)

pub returns-in_err-push-clause-ok : goal.returns-in_err-push-clause-ok
returns-in_err-push-clause-ok c = grind (arith, elements)
