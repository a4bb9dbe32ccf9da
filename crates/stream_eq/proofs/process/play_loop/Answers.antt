use Rattle.std.proofs.Common.{[], sym, subst, ◌∙◌}
use Rattle.std.proofs.lemmas.Result.{err_from_is_err_and}
use Rattle.kahn_net.specs.Common.{total, block_of, trace_of, passes}
use Rattle.stream_eq.specs.Limits.{GoesPast}
use Rattle.stream_eq.proofs.Errors.{other_err}
use Rattle.stream_eq.proofs.Loops.{smaller, goes_on, past_then}
use Rattle.std.proofs.lemmas.Grind.{common_steps}
use Rattle.std.proofs.Common.{arith}
use Rattle.stream_eq.proofs.process.play_loop.Goals as goal

pub returns-in_err-play_statements-clause-long : goal.returns-in_err-play_statements-clause-long
returns-in_err-play_statements-clause-long c =
    let p = err_from_is_err_and c.from_residual.result c.from_residual.ensures.1 in
    let b = block_of c.args.body.now in
    let e = c.in_err-play_statements.ensures in
    rw (p.1, p.2) (λ h site. subst (GoesPast c.args.limits.now) (c.loop.invariant.leads site)
    (past_then c.args.limits.now (trace_of site [] b c.loop.variables c.loop.unread)
    (passes (total c.loop.unread) site b) c.loop.sent (e.long (other_err _ _ h) site [])))

pub loop-smaller : goal.loop-smaller
loop-smaller c =
    smaller 0 (block_of c.args.body.now) c.loop.variables c.play_statements.new.variables c.loop.unread
    c.play_statements.new.unread c.loop.sent c.play_statements.new.sent c.in_ok-play_statements.field-0
    c.if-branch.true c.requires.passing (c.in_ok-play_statements.ensures.played 0 [])

pub loop-preserved : goal.loop-preserved
loop-preserved c =
    let before = c.loop.invariant in
    let e = c.in_ok-play_statements.ensures in
    record {
      count = before.count ∙ sym c.play_statements.auto.sent;
      within = λ l. e.within (before.within l);
      leads = λ site. goes_on site (block_of c.args.body.now) c.loop.variables c.play_statements.new.variables
          c.loop.unread c.play_statements.new.unread c.loop.sent c.play_statements.new.sent
          c.in_ok-play_statements.field-0 c.if-branch.true c.requires.passing (e.played site []) ∙ before.leads site;
    }

pub returns-clause-played : goal.returns-clause-played
returns-clause-played c = grind (arith, common_steps)
