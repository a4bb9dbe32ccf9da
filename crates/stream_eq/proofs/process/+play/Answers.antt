use Rattle.std.proofs.Common.{suc, ◌+◌, ◌-◌, [], ◌∷◌, ◌++◌, drop, sym, ap, ◌∙◌, subst, arith}
use Rattle.std.proofs.lemmas.Result.{err_from_is_err_and, IfOk-weaker}
use Rattle.kahn_net.specs.Common.{Block, block_of, Trace, trace_of, sites_of, put_after}
use Rattle.kahn_net.specs.Laws.Syntax.{block_at}
use Rattle.kahn_net.specs.Laws.Traces.{takes_first, takes_second}
use Rattle.stream_eq.specs.Limits.{GoesPast}
use Rattle.stream_eq.specs.Play.{IsPlayed}
use Rattle.stream_eq.proofs.Errors.{other_err}
use Rattle.stream_eq.proofs.Going.{going_at, goes_further, stays, past_behind, one_less, round_at, round_further}
use Rattle.stream_eq.proofs.Going.{round_stays, round_past, round_ended, takes_rounds}
use Rattle.std.proofs.lemmas.Grind.{elements}
use Rattle.stream_eq.proofs.process.+play.Goals as goal

pub play_statement-returns-then-is_zero-clause-played : goal.play_statement-returns-then-is_zero-clause-played
play_statement-returns-then-is_zero-clause-played t c =
    let a = block_of c.in-If.first.items in
    let vars = c.args.variables.now in
    let unread = c.args.unread.now in
    IfOk-weaker c.play_statements.result _ _
    (λ ended played site left.
    let there = played (site + sites_of a) left in
    let same =
    ap (λ (b : Block). trace_of (site + sites_of a) left b vars unread) (ap block_of (sym c.deref.ensures.value)) in
    subst (λ (x : Trace). IsPlayed x c.args.sent.now c.play_statements.new.sent ended c.play_statements.new.variables
    c.play_statements.new.unread)
    (sym (takes_second c.args.statement.now c.in-If.test c.in-If.first c.in-If.second c.in-If.is site left vars unread
    c.if-is_zero.ensures ∙ same)) there)
    c.play_statements.ensures.played

pub play_statement-returns-then-is_zero-clause-long : goal.play_statement-returns-then-is_zero-clause-long
play_statement-returns-then-is_zero-clause-long t c h site left =
    let a = block_of c.in-If.first.items in
    let vars = c.args.variables.now in
    let unread = c.args.unread.now in
    let same =
    ap (λ (b : Block). trace_of (site + sites_of a) left b vars unread) (ap block_of (sym c.deref.ensures.value)) in
    subst (λ (x : Trace). GoesPast c.args.limits.now (put_after x.steps c.args.sent.now))
    (sym (takes_second c.args.statement.now c.in-If.test c.in-If.first c.in-If.second c.in-If.is site left vars unread
    c.if-is_zero.ensures ∙ same))
    (c.play_statements.ensures.long h (site + sites_of a) left)

pub play_statement-returns-else-is_zero-clause-played : goal.play_statement-returns-else-is_zero-clause-played
play_statement-returns-else-is_zero-clause-played t c =
    let vars = c.args.variables.now in
    let unread = c.args.unread.now in
    IfOk-weaker c.play_statements-else-is_zero.result _ _
    (λ ended played site left.
    let same =
    ap (λ (b : Block). trace_of site left b vars unread) (ap block_of (sym c.deref-else-is_zero.ensures.value)) in
    subst (λ (x : Trace). IsPlayed x c.args.sent.now c.play_statements-else-is_zero.new.sent ended
    c.play_statements-else-is_zero.new.variables c.play_statements-else-is_zero.new.unread)
    (sym (takes_first c.args.statement.now c.in-If.test c.in-If.first c.in-If.second c.in-If.is site left vars unread
    c.if-is_zero.ensures ∙ same)) (played site left))
    c.play_statements-else-is_zero.ensures.played

pub play_statement-returns-else-is_zero-clause-long : goal.play_statement-returns-else-is_zero-clause-long
play_statement-returns-else-is_zero-clause-long t c h site left =
    let vars = c.args.variables.now in
    let unread = c.args.unread.now in
    let same =
    ap (λ (b : Block). trace_of site left b vars unread) (ap block_of (sym c.deref-else-is_zero.ensures.value)) in
    subst (λ (x : Trace). GoesPast c.args.limits.now (put_after x.steps c.args.sent.now))
    (sym (takes_first c.args.statement.now c.in-If.test c.in-If.first c.in-If.second c.in-If.is site left vars unread
    c.if-is_zero.ensures ∙ same))
    (c.play_statements-else-is_zero.ensures.long h site left)

pub play_statements-returns-in_err-play_statement-clause-long : goal.play_statements-returns-in_err-play_statement-clause-long
play_statements-returns-in_err-play_statement-clause-long t c =
    let p = err_from_is_err_and c.from_residual.result c.from_residual.ensures.1 in
    let ss = c.args.statements.now in
    let i = c.loop-statement.statement-index in
    let here = block_at ss i c.statement-item.result c.loop-statement-test.true c.statement-item.is in
    rw (p.1, p.2)
    (λ h site left. past_behind c.statement-item.result (block_of (drop (i + 1) ss)) c.args.limits.now
    (going_at (c.loop-statement.invariant.going site left) here)
    (c.in_err-play_statement.ensures.long (other_err _ _ h)))

pub play_statements-returns-then-not-branch-clause-played : goal.play_statements-returns-then-not-branch-clause-played
play_statements-returns-then-not-branch-clause-played t c site left =
    let ss = c.args.statements.now in
    let i = c.loop-statement.statement-index in
    let here = block_at ss i c.statement-item.result c.loop-statement-test.true c.statement-item.is in
    stays c.statement-item.result (block_of (drop (i + 1) ss))
    (going_at (c.loop-statement.invariant.going site left) here) c.in_ok-play_statement.ensures.played
    c.if-not-branch.true

pub play_statements-loop-statement-preserved : goal.play_statements-loop-statement-preserved
play_statements-loop-statement-preserved t c =
    let ss = c.args.statements.now in
    let i = c.loop-statement.statement-index in
    let here = block_at ss i c.statement-item.result c.loop-statement-test.true c.statement-item.is in
    let before = c.loop-statement.invariant in
    record {
      count = before.count ∙ sym c.play_statement.auto.sent;
      within = λ l. c.in_ok-play_statement.ensures.within (before.within l);
      going = λ site left. goes_further c.statement-item.result (block_of (drop (i + 1) ss))
          (going_at (before.going site left) here) c.in_ok-play_statement.ensures.played c.if-not-branch.false;
    }

pub play_repeated-returns-in_err-play_statements-clause-long : goal.play_repeated-returns-in_err-play_statements-clause-long
play_repeated-returns-in_err-play_statements-clause-long t c =
    let p = err_from_is_err_and c.from_residual.result c.from_residual.ensures.1 in
    let n = c.args.times in
    let i = c.loop.counter in
    rw (p.1, p.2)
    (λ h site left. round_past c.args.limits.now
    (round_at (one_less n i c.loop-test.true) (c.loop.invariant.going site left))
    (c.in_err-play_statements.ensures.long (other_err _ _ h) site (left ++ suc (n - (i + 1)) ∷ [])))

pub play_repeated-returns-then-not-branch-clause-played : goal.play_repeated-returns-then-not-branch-clause-played
play_repeated-returns-then-not-branch-clause-played t c site left =
    let n = c.args.times in
    let i = c.loop.counter in
    round_stays (round_at (one_less n i c.loop-test.true) (c.loop.invariant.going site left))
    (c.in_ok-play_statements.ensures.played site (left ++ suc (n - (i + 1)) ∷ [])) c.if-not-branch.true

pub play_repeated-loop-preserved : goal.play_repeated-loop-preserved
play_repeated-loop-preserved t c =
    let n = c.args.times in
    let i = c.loop.counter in
    let before = c.loop.invariant in
    record {
      count = before.count ∙ sym c.play_statements.auto.sent;
      within = λ l. c.in_ok-play_statements.ensures.within (before.within l);
      going = λ site left. round_further (round_at (one_less n i c.loop-test.true) (before.going site left))
          (c.in_ok-play_statements.ensures.played site (left ++ suc (n - (i + 1)) ∷ [])) c.if-not-branch.false;
    }

pub play_repeated-returns-clause-played : goal.play_repeated-returns-clause-played
play_repeated-returns-clause-played t c site left =
    round_ended (omega arith) (c.loop.invariant.going site left)

pub play_statement-returns-in-Repeat-clause-played : goal.play_statement-returns-in-Repeat-clause-played
play_statement-returns-in-Repeat-clause-played t c =
    let vars = c.args.variables.now in
    let unread = c.args.unread.now in
    IfOk-weaker c.play_repeated.result _ _
    (λ ended played site left.
    subst (λ (x : Trace). IsPlayed x c.args.sent.now c.play_repeated.new.sent ended c.play_repeated.new.variables
    c.play_repeated.new.unread)
    (sym (takes_rounds c.args.statement.now c.in-Repeat.times c.in-Repeat.body c.deref-in-Repeat.result.now c.in-Repeat.is
    c.deref-in-Repeat.ensures.value site left vars unread)) (played site left))
    c.play_repeated.ensures.played

pub play_statement-returns-in-Repeat-clause-long : goal.play_statement-returns-in-Repeat-clause-long
play_statement-returns-in-Repeat-clause-long t c h site left =
    let vars = c.args.variables.now in
    let unread = c.args.unread.now in
    subst (λ (x : Trace). GoesPast c.args.limits.now (put_after x.steps c.args.sent.now))
    (sym (takes_rounds c.args.statement.now c.in-Repeat.times c.in-Repeat.body c.deref-in-Repeat.result.now c.in-Repeat.is
    c.deref-in-Repeat.ensures.value site left vars unread))
    (c.play_repeated.ensures.long h site left)

pub play_statements-loop-statement-init : goal.play_statements-loop-statement-init
play_statements-loop-statement-init c = grind (arith, elements)
