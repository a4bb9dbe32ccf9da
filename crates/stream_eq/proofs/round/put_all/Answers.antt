use Rattle.std.proofs.Common.{◌+◌, drop, map, subst, ◌∙◌}
use Rattle.std.proofs.lemmas.Result.{err_from_is_err_and}
use Rattle.kahn_net.specs.Common.{code_of, process_trace, put_after}
use Rattle.kahn_net.specs.Laws.Valid.{code_at}
use Rattle.stream_eq.specs.Limits.{GoesPast}
use Rattle.stream_eq.proofs.Errors.{other_err}
use Rattle.stream_eq.proofs.Rounds.{all_more, past_all}
use Rattle.std.proofs.lemmas.Grind.{common_steps}
use Rattle.std.proofs.Common.{arith}
use Rattle.stream_eq.proofs.round.put_all.Goals as goal

pub put_outputs-requires-clause-passing : goal.put_outputs-requires-clause-passing
put_outputs-requires-clause-passing c =
    c.requires.passing c.loop-process.process-index (code_of c.process-item.result)
    (code_at c.args.processes.now c.loop-process.process-index c.process-item.result c.loop-process-test.true
    c.process-item.is)

pub returns-in_err-put_outputs-clause-long : goal.returns-in_err-put_outputs-clause-long
returns-in_err-put_outputs-clause-long c =
    let p = err_from_is_err_and c.from_residual.result c.from_residual.ensures.1 in
    let ps = c.args.processes.now in
    let i = c.loop-process.process-index in
    let histories = c.args.histories.now in
    let more =
    all_more ps i c.process-item.result histories c.loop-process.after c.loop-process-test.true c.process-item.is
    ∙ c.loop-process.invariant.leads in
    rw (p.1, p.2) (λ h. subst (GoesPast c.args.limits.now) more
    (past_all c.args.limits.now (map code_of (drop (i + 1) ps)) histories
    (put_after (process_trace (code_of c.process-item.result) histories).steps c.loop-process.after)
    (c.in_err-put_outputs.ensures.long (other_err _ _ h))))

pub loop-process-preserved : goal.loop-process-preserved
loop-process-preserved c = grind (arith, common_steps)
