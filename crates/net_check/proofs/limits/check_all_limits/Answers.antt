use Rattle.std.proofs.Common.{arith, below_more, map}
use Rattle.std.proofs.lemmas.Result.{err_from_is_err_and}
use Rattle.std.proofs.lemmas.Option.{slice_get_within}
use Rattle.std.proofs.lemmas.List.{length-map}
use Rattle.net_text.specs.Trees.{process_tree}
use Rattle.net_check.proofs.Fitting.{fault_among, fit_at}
use Rattle.net_check.proofs.limits.check_all_limits.Goals as goal

pub returns-in_err-check_limits-clause-err : goal.returns-in_err-check_limits-clause-err
returns-in_err-check_limits-clause-err c =
    let p = err_from_is_err_and c.from_residual.result c.from_residual.ensures.1 in
    rw (p.1, p.2)
    (fault_among c.args.processes.now c.loop-process.process-index c.process-item.result _ (omega arith)
    c.process-item.is c.in_err-check_limits.ensures.err)

pub loop-process-preserved : goal.loop-process-preserved
loop-process-preserved c =
    below_more _ _ c.loop-process.invariant
    (fit_at c.args.processes.now c.loop-process.process-index c.process-item.result (omega arith) c.process-item.is
    c.in_ok-check_limits.ensures.ok)

pub returns-clause-ok : goal.returns-clause-ok
returns-clause-ok c = λ p process h.
    let lt = slice_get_within (map process_tree c.args.processes.now) p process h in
    let e = length-map c.args.processes.now process_tree in
    c.loop-process.invariant p (omega arith) process h
