use Rattle.std.proofs.Common.{[], ap, subst, ◌∙◌}
use Rattle.std.proofs.lemmas.Result.{err_from_is_err_and, on_ok_weaker}
use Rattle.kahn_net.specs.Common.{block_of, code_of, Trace, trace_of, sites_of, loop_trace, put_after}
use Rattle.kahn_net.specs.Syntax.{body_of}
use Rattle.stream_eq.specs.Limits.{GoesPast}
use Rattle.stream_eq.proofs.Errors.{other_err}
use Rattle.stream_eq.proofs.Loops.{ended_then, past_then, then_past, played_at, trace_at, loop_at}
use Rattle.std.proofs.lemmas.Grind.{elements}
use Rattle.std.proofs.Common.{arith}
use Rattle.stream_eq.proofs.process.play.Goals as goal

pub returns-in_err-ended-clause-long : goal.returns-in_err-ended-clause-long
returns-in_err-ended-clause-long c =
    let p = err_from_is_err_and c.from_residual.result c.from_residual.ensures.1 in
    let code = code_of c.args.process.now in
    let unread = c.args.unread.now in
    let sent = c.args.sent.now in
    let e = c.in_err-ended.ensures in
    let same = trace_at _ code.prelude _ code.vars unread (ap block_of c.deref.ensures.value) c.requires.first in
    rw (p.1, p.2)
    (λ h. past_then c.args.limits.now (trace_of 0 [] code.prelude code.vars unread)
    (loop_trace (sites_of code.prelude) code.body) sent
    (subst (λ (t : Trace). GoesPast c.args.limits.now (put_after t.steps sent)) same (e.long (other_err _ _ h) 0 [])))

pub returns-clause-played : goal.returns-clause-played
returns-clause-played c =
    let code = code_of c.args.process.now in
    let unread = c.args.unread.now in
    let sent = c.args.sent.now in
    let mid = c.play_statements.new in
    let first =
    played_at _ code.prelude _ code.vars unread sent mid.sent c.in_ok-ended.ended mid.variables mid.unread
    (ap block_of c.deref.ensures.value) c.requires.first (c.in_ok-ended.ensures.played 0 []) in
    let loop =
    loop_at (sites_of code.prelude) code.body _ (block_of c.in-Some.body.items) mid.variables mid.unread
    (ap body_of c.in-Some.is) (ap block_of c.deref-2.ensures.value) in
    on_ok_weaker c.play_loop.result
    (λ h. ended_then (trace_of 0 [] code.prelude code.vars unread) (loop_trace (sites_of code.prelude) code.body) sent
    mid.sent c.play_loop.new.sent c.in_ok-ended.ended mid.variables mid.unread c.if-not-ended.false first
    (h (sites_of code.prelude) ∙ ap (λ (t : Trace). put_after t.steps mid.sent) loop))
    c.play_loop.ensures.played

pub returns-clause-long : goal.returns-clause-long
returns-clause-long c h =
    let code = code_of c.args.process.now in
    let unread = c.args.unread.now in
    let sent = c.args.sent.now in
    let mid = c.play_statements.new in
    let first =
    played_at _ code.prelude _ code.vars unread sent mid.sent c.in_ok-ended.ended mid.variables mid.unread
    (ap block_of c.deref.ensures.value) c.requires.first (c.in_ok-ended.ensures.played 0 []) in
    let loop =
    loop_at (sites_of code.prelude) code.body _ (block_of c.in-Some.body.items) mid.variables mid.unread
    (ap body_of c.in-Some.is) (ap block_of c.deref-2.ensures.value) in
    then_past c.args.limits.now (trace_of 0 [] code.prelude code.vars unread)
    (loop_trace (sites_of code.prelude) code.body) sent mid.sent c.in_ok-ended.ended mid.variables mid.unread
    c.if-not-ended.false first
    (subst (λ (t : Trace). GoesPast c.args.limits.now (put_after t.steps mid.sent)) loop
    (c.play_loop.ensures.long h (sites_of code.prelude)))

pub returns-clause-within : goal.returns-clause-within
returns-clause-within c = grind (arith, elements)

pub returns-in_default-clause-within : goal.returns-in_default-clause-within
returns-in_default-clause-within c = grind (arith, elements)

pub returns-then-not-ended-clause-within : goal.returns-then-not-ended-clause-within
returns-then-not-ended-clause-within c = grind (arith, elements)
