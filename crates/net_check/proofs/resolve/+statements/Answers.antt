use Rattle.std.proofs.lemmas.Grind.{elements}
use Rattle.std.proofs.Common.{[], ◌∷◌, ◌∙◌, ap, arith, List}
use Rattle.std.proofs.lemmas.Result.{err_from_is_err_and}
use Rattle.net_text.specs.Trees.{expr_tree}
use Rattle.kahn_net.specs.declared.program.Statement.{Statement}
use Rattle.kahn_net.specs.Common.{block_of, block_gets, block_puts}
use Rattle.net_check.specs.Uses.{OfVariable, GetFrom, PutOn, expr_uses}
use Rattle.net_check.proofs.Ifs.{if_gets, if_puts, if_resolves, within_first, within_second, within_test, within_body}
use Rattle.net_check.proofs.Ifs.{claims_same, repeat_gets, repeat_puts, repeat_resolves}
use Rattle.net_check.proofs.Using.{use_more, use_from_name, within_next, within_same, within_left, within_right}
use Rattle.net_check.proofs.Using.{within_statement}
use Rattle.net_check.proofs.Resolving.{resolves_more, puts_push, gets_push, claims_then, use_earlier}
use Rattle.net_check.proofs.resolve.+statements.Goals as goal

pub resolve_statement-returns-in_err-channel-in-Get-clause-err : goal.resolve_statement-returns-in_err-channel-in-Get-clause-err
resolve_statement-returns-in_err-channel-in-Get-clause-err t c =
    let p = err_from_is_err_and c.from_residual-in_err-channel-in-Get.result
    c.from_residual-in_err-channel-in-Get.ensures.1 in
    rw (p.1, p.2, c.in-Get.is)
    (use_more
    _ _ _ _ _ _ _ _ (within_next (OfVariable c.in-Get.variable) _ _ (within_same (GetFrom c.in-Get.channel ∷ [])))
    c.in_err-channel-in-Get.ensures.err)

pub resolve_statement-returns-in_err-value-in-Put-clause-err : goal.resolve_statement-returns-in_err-value-in-Put-clause-err
resolve_statement-returns-in_err-value-in-Put-clause-err t c =
    let p = err_from_is_err_and c.from_residual-in_err-value-in-Put.result
    c.from_residual-in_err-value-in-Put.ensures.1 in
    rw (p.1, p.2, c.in-Put.is)
    (use_from_name
    _ _ _ _ _ _ _ _ (within_left (expr_uses (expr_tree c.in-Put.value)) (PutOn c.in-Put.channel ∷ []))
    c.in_err-value-in-Put.ensures.err)

pub resolve_statement-returns-in_err-channel-in-Put-clause-err : goal.resolve_statement-returns-in_err-channel-in-Put-clause-err
resolve_statement-returns-in_err-channel-in-Put-clause-err t c =
    let p = err_from_is_err_and c.from_residual-in_err-channel-in-Put.result
    c.from_residual-in_err-channel-in-Put.ensures.1 in
    rw (p.1, p.2, c.in-Put.is)
    (use_more _ _ _ _ _ _ _ _ (within_right (expr_uses (expr_tree c.in-Put.value)) (PutOn c.in-Put.channel ∷ []))
    c.in_err-channel-in-Put.ensures.err)

pub resolve_statements-returns-in_err-next-clause-err : goal.resolve_statements-returns-in_err-next-clause-err
resolve_statements-returns-in_err-next-clause-err t c =
    let p = err_from_is_err_and c.from_residual.result c.from_residual.ensures.1 in
    let i = c.loop-statement.invariant in
    rw (p.1, p.2)
    (use_earlier _ _ _ _ _ _ _ _ _ _ _ i.puts i.gets
    (use_more
    _ _ _ _ _ _ _ _ (within_statement c.args.statements.now c.loop-statement.statement-index
    c.statement-item.result (omega arith) c.statement-item.is) c.in_err-next.ensures.err))

pub resolve_statements-loop-statement-preserved : goal.resolve_statements-loop-statement-preserved
resolve_statements-loop-statement-preserved t c =
    let i = c.loop-statement.invariant in
    let out = c.in_ok-push.ensures.items in
    record {
      resolved =
          rw out (resolves_more _ _ c.args.statements.now c.loop-statement.statement-index
          c.loop-statement.resolved.items c.statement-item.result _ (omega arith) c.statement-item.is i.resolved
          c.in_ok-next.ensures.ok);
      puts = claims_then
          _ _ _ _ _ _ _ _ _ (λ k. ap (λ (xs : List Statement). block_puts k (block_of xs)) out
          ∙ puts_push k c.loop-statement.resolved.items c.in_ok-next.next) i.puts c.in_ok-next.ensures.puts;
      gets = claims_then
          _ _ _ _ _ _ _ _ _ (λ k. ap (λ (xs : List Statement). block_gets k (block_of xs)) out
          ∙ gets_push k c.loop-statement.resolved.items c.in_ok-next.next) i.gets c.in_ok-next.ensures.gets;
    }

pub resolve_statement-returns-in_err-test-in-If-clause-err : goal.resolve_statement-returns-in_err-test-in-If-clause-err
resolve_statement-returns-in_err-test-in-If-clause-err t c =
    let p = err_from_is_err_and c.from_residual-in_err-test-in-If.result c.from_residual-in_err-test-in-If.ensures.1 in
    rw (p.1, p.2)
    (use_from_name
    _ _ _ _ _ _ _ _ (within_test c.args.statement.now c.in-If.test c.in-If.first c.in-If.second c.in-If.is)
    c.in_err-test-in-If.ensures.err)

pub resolve_statement-returns-in_err-first-in-If-clause-err : goal.resolve_statement-returns-in_err-first-in-If-clause-err
resolve_statement-returns-in_err-first-in-If-clause-err t c =
    let p = err_from_is_err_and c.from_residual-in_err-first-in-If.result
    c.from_residual-in_err-first-in-If.ensures.1 in
    rw (p.1, p.2)
    (use_more
    _ _ _ _ _ _ _ _ (within_first c.args.statement.now c.in-If.test c.in-If.first c.in-If.second c.deref.result.now
    c.in-If.is c.deref.ensures.value) c.in_err-first-in-If.ensures.err)

pub resolve_statement-returns-in_err-second-in-If-clause-err : goal.resolve_statement-returns-in_err-second-in-If-clause-err
resolve_statement-returns-in_err-second-in-If-clause-err t c =
    let p = err_from_is_err_and c.from_residual-in_err-second-in-If.result
    c.from_residual-in_err-second-in-If.ensures.1 in
    let more =
    use_more
    _ _ _ _ _ _ _ _ (within_second c.args.statement.now c.in-If.test c.in-If.first c.in-If.second
    c.deref-in-If.result.now c.in-If.is c.deref-in-If.ensures.value) c.in_err-second-in-If.ensures.err in
    rw (p.1, p.2)
    (use_earlier _ _ _ _ _ _ _ _ _ _ _ c.in_ok-first-in-If.ensures.puts c.in_ok-first-in-If.ensures.gets more)

pub resolve_statement-returns-in_ok-second-in-If-clause-ok : goal.resolve_statement-returns-in_ok-second-in-If-clause-ok
resolve_statement-returns-in_ok-second-in-If-clause-ok t c =
    if_resolves _ _ c.args.statement.now c.in-If.test c.in-If.first c.in-If.second c.deref.result.now
    c.deref-in-If.result.now c.in_ok-test-in-If.test c.in_ok-first-in-If.first c.in_ok-second-in-If.second
    c.in-If.is c.deref.ensures.value c.deref-in-If.ensures.value c.in_ok-test-in-If.ensures.ok
    c.in_ok-first-in-If.ensures.ok c.in_ok-second-in-If.ensures.ok

pub resolve_statement-returns-in_ok-second-in-If-clause-puts : goal.resolve_statement-returns-in_ok-second-in-If-clause-puts
resolve_statement-returns-in_ok-second-in-If-clause-puts t c =
    claims_then
    _ _ _ _ _ _ _ _ _ (λ k. if_puts k c.in_ok-test-in-If.test c.in_ok-first-in-If.first
    c.in_ok-second-in-If.second) c.in_ok-first-in-If.ensures.puts c.in_ok-second-in-If.ensures.puts

pub resolve_statement-returns-in_ok-second-in-If-clause-gets : goal.resolve_statement-returns-in_ok-second-in-If-clause-gets
resolve_statement-returns-in_ok-second-in-If-clause-gets t c =
    claims_then
    _ _ _ _ _ _ _ _ _ (λ k. if_gets k c.in_ok-test-in-If.test c.in_ok-first-in-If.first
    c.in_ok-second-in-If.second) c.in_ok-first-in-If.ensures.gets c.in_ok-second-in-If.ensures.gets

pub resolve_statement-returns-in_err-body-in-Repeat-clause-err : goal.resolve_statement-returns-in_err-body-in-Repeat-clause-err
resolve_statement-returns-in_err-body-in-Repeat-clause-err t c =
    let p = err_from_is_err_and c.from_residual-in_err-body-in-Repeat.result
    c.from_residual-in_err-body-in-Repeat.ensures.1 in
    rw (p.1, p.2)
    (use_more
    _ _ _ _ _ _ _ _ (within_body c.args.statement.now c.in-Repeat.times c.in-Repeat.line c.in-Repeat.body
    c.deref-in-Repeat.result.now c.in-Repeat.is c.deref-in-Repeat.ensures.value) c.in_err-body-in-Repeat.ensures.err)

pub resolve_statement-returns-in_ok-body-in-Repeat-clause-ok : goal.resolve_statement-returns-in_ok-body-in-Repeat-clause-ok
resolve_statement-returns-in_ok-body-in-Repeat-clause-ok t c =
    repeat_resolves _ _ c.args.statement.now c.in-Repeat.times c.in-Repeat.line c.in-Repeat.body
    c.deref-in-Repeat.result.now c.in_ok-body-in-Repeat.body c.in-Repeat.is c.deref-in-Repeat.ensures.value
    c.in_ok-body-in-Repeat.ensures.ok

pub resolve_statement-returns-in_ok-body-in-Repeat-clause-puts : goal.resolve_statement-returns-in_ok-body-in-Repeat-clause-puts
resolve_statement-returns-in_ok-body-in-Repeat-clause-puts t c =
    claims_same _ _ _ _ _ _ _ (λ k. repeat_puts k c.in-Repeat.times c.in_ok-body-in-Repeat.body)
    c.in_ok-body-in-Repeat.ensures.puts

pub resolve_statement-returns-in_ok-body-in-Repeat-clause-gets : goal.resolve_statement-returns-in_ok-body-in-Repeat-clause-gets
resolve_statement-returns-in_ok-body-in-Repeat-clause-gets t c =
    claims_same _ _ _ _ _ _ _ (λ k. repeat_gets k c.in-Repeat.times c.in_ok-body-in-Repeat.body)
    c.in_ok-body-in-Repeat.ensures.gets

pub resolve_statement-returns-in-Stop-clause-err : goal.resolve_statement-returns-in-Stop-clause-err
resolve_statement-returns-in-Stop-clause-err t c = grind (arith, elements)

pub resolve_statement-returns-in-Stop-clause-gets : goal.resolve_statement-returns-in-Stop-clause-gets
resolve_statement-returns-in-Stop-clause-gets t c = grind (arith, elements)

pub resolve_statement-returns-in-Stop-clause-ok : goal.resolve_statement-returns-in-Stop-clause-ok
resolve_statement-returns-in-Stop-clause-ok t c = grind (arith, elements)

pub resolve_statement-returns-in-Stop-clause-puts : goal.resolve_statement-returns-in-Stop-clause-puts
resolve_statement-returns-in-Stop-clause-puts t c = grind (arith, elements)

pub resolve_statement-returns-in_err-body-in-Repeat-clause-gets : goal.resolve_statement-returns-in_err-body-in-Repeat-clause-gets
resolve_statement-returns-in_err-body-in-Repeat-clause-gets t c = grind (arith, elements)

pub resolve_statement-returns-in_err-body-in-Repeat-clause-ok : goal.resolve_statement-returns-in_err-body-in-Repeat-clause-ok
resolve_statement-returns-in_err-body-in-Repeat-clause-ok t c = grind (arith, elements)

pub resolve_statement-returns-in_err-body-in-Repeat-clause-puts : goal.resolve_statement-returns-in_err-body-in-Repeat-clause-puts
resolve_statement-returns-in_err-body-in-Repeat-clause-puts t c = grind (arith, elements)

pub resolve_statement-returns-in_err-channel-in-Get-clause-gets : goal.resolve_statement-returns-in_err-channel-in-Get-clause-gets
resolve_statement-returns-in_err-channel-in-Get-clause-gets t c = grind (arith, elements)

pub resolve_statement-returns-in_err-channel-in-Get-clause-ok : goal.resolve_statement-returns-in_err-channel-in-Get-clause-ok
resolve_statement-returns-in_err-channel-in-Get-clause-ok t c = grind (arith, elements)

pub resolve_statement-returns-in_err-channel-in-Get-clause-puts : goal.resolve_statement-returns-in_err-channel-in-Get-clause-puts
resolve_statement-returns-in_err-channel-in-Get-clause-puts t c = grind (arith, elements)

pub resolve_statement-returns-in_err-channel-in-Put-clause-gets : goal.resolve_statement-returns-in_err-channel-in-Put-clause-gets
resolve_statement-returns-in_err-channel-in-Put-clause-gets t c = grind (arith, elements)

pub resolve_statement-returns-in_err-channel-in-Put-clause-ok : goal.resolve_statement-returns-in_err-channel-in-Put-clause-ok
resolve_statement-returns-in_err-channel-in-Put-clause-ok t c = grind (arith, elements)

pub resolve_statement-returns-in_err-channel-in-Put-clause-puts : goal.resolve_statement-returns-in_err-channel-in-Put-clause-puts
resolve_statement-returns-in_err-channel-in-Put-clause-puts t c = grind (arith, elements)

pub resolve_statement-returns-in_err-first-in-If-clause-gets : goal.resolve_statement-returns-in_err-first-in-If-clause-gets
resolve_statement-returns-in_err-first-in-If-clause-gets t c = grind (arith, elements)

pub resolve_statement-returns-in_err-first-in-If-clause-ok : goal.resolve_statement-returns-in_err-first-in-If-clause-ok
resolve_statement-returns-in_err-first-in-If-clause-ok t c = grind (arith, elements)

pub resolve_statement-returns-in_err-first-in-If-clause-puts : goal.resolve_statement-returns-in_err-first-in-If-clause-puts
resolve_statement-returns-in_err-first-in-If-clause-puts t c = grind (arith, elements)

pub resolve_statement-returns-in_err-second-in-If-clause-gets : goal.resolve_statement-returns-in_err-second-in-If-clause-gets
resolve_statement-returns-in_err-second-in-If-clause-gets t c = grind (arith, elements)

pub resolve_statement-returns-in_err-second-in-If-clause-ok : goal.resolve_statement-returns-in_err-second-in-If-clause-ok
resolve_statement-returns-in_err-second-in-If-clause-ok t c = grind (arith, elements)

pub resolve_statement-returns-in_err-second-in-If-clause-puts : goal.resolve_statement-returns-in_err-second-in-If-clause-puts
resolve_statement-returns-in_err-second-in-If-clause-puts t c = grind (arith, elements)

pub resolve_statement-returns-in_err-test-in-If-clause-gets : goal.resolve_statement-returns-in_err-test-in-If-clause-gets
resolve_statement-returns-in_err-test-in-If-clause-gets t c = grind (arith, elements)

pub resolve_statement-returns-in_err-test-in-If-clause-ok : goal.resolve_statement-returns-in_err-test-in-If-clause-ok
resolve_statement-returns-in_err-test-in-If-clause-ok t c = grind (arith, elements)

pub resolve_statement-returns-in_err-test-in-If-clause-puts : goal.resolve_statement-returns-in_err-test-in-If-clause-puts
resolve_statement-returns-in_err-test-in-If-clause-puts t c = grind (arith, elements)

pub resolve_statement-returns-in_err-value-in-Assign-clause-gets : goal.resolve_statement-returns-in_err-value-in-Assign-clause-gets
resolve_statement-returns-in_err-value-in-Assign-clause-gets t c = grind (arith, elements)

pub resolve_statement-returns-in_err-value-in-Assign-clause-ok : goal.resolve_statement-returns-in_err-value-in-Assign-clause-ok
resolve_statement-returns-in_err-value-in-Assign-clause-ok t c = grind (arith, elements)

pub resolve_statement-returns-in_err-value-in-Assign-clause-puts : goal.resolve_statement-returns-in_err-value-in-Assign-clause-puts
resolve_statement-returns-in_err-value-in-Assign-clause-puts t c = grind (arith, elements)

pub resolve_statement-returns-in_err-value-in-Put-clause-gets : goal.resolve_statement-returns-in_err-value-in-Put-clause-gets
resolve_statement-returns-in_err-value-in-Put-clause-gets t c = grind (arith, elements)

pub resolve_statement-returns-in_err-value-in-Put-clause-ok : goal.resolve_statement-returns-in_err-value-in-Put-clause-ok
resolve_statement-returns-in_err-value-in-Put-clause-ok t c = grind (arith, elements)

pub resolve_statement-returns-in_err-value-in-Put-clause-puts : goal.resolve_statement-returns-in_err-value-in-Put-clause-puts
resolve_statement-returns-in_err-value-in-Put-clause-puts t c = grind (arith, elements)

pub resolve_statement-returns-in_err-variable-in-Assign-clause-err : goal.resolve_statement-returns-in_err-variable-in-Assign-clause-err
resolve_statement-returns-in_err-variable-in-Assign-clause-err t c = grind (arith, elements)

pub resolve_statement-returns-in_err-variable-in-Assign-clause-gets : goal.resolve_statement-returns-in_err-variable-in-Assign-clause-gets
resolve_statement-returns-in_err-variable-in-Assign-clause-gets t c = grind (arith, elements)

pub resolve_statement-returns-in_err-variable-in-Assign-clause-ok : goal.resolve_statement-returns-in_err-variable-in-Assign-clause-ok
resolve_statement-returns-in_err-variable-in-Assign-clause-ok t c = grind (arith, elements)

pub resolve_statement-returns-in_err-variable-in-Assign-clause-puts : goal.resolve_statement-returns-in_err-variable-in-Assign-clause-puts
resolve_statement-returns-in_err-variable-in-Assign-clause-puts t c = grind (arith, elements)

pub resolve_statement-returns-in_err-variable-in-Get-clause-err : goal.resolve_statement-returns-in_err-variable-in-Get-clause-err
resolve_statement-returns-in_err-variable-in-Get-clause-err t c = grind (arith, elements)

pub resolve_statement-returns-in_err-variable-in-Get-clause-gets : goal.resolve_statement-returns-in_err-variable-in-Get-clause-gets
resolve_statement-returns-in_err-variable-in-Get-clause-gets t c = grind (arith, elements)

pub resolve_statement-returns-in_err-variable-in-Get-clause-ok : goal.resolve_statement-returns-in_err-variable-in-Get-clause-ok
resolve_statement-returns-in_err-variable-in-Get-clause-ok t c = grind (arith, elements)

pub resolve_statement-returns-in_err-variable-in-Get-clause-puts : goal.resolve_statement-returns-in_err-variable-in-Get-clause-puts
resolve_statement-returns-in_err-variable-in-Get-clause-puts t c = grind (arith, elements)

pub resolve_statement-returns-in_ok-body-in-Repeat-clause-err : goal.resolve_statement-returns-in_ok-body-in-Repeat-clause-err
resolve_statement-returns-in_ok-body-in-Repeat-clause-err t c = grind (arith, elements)

pub resolve_statement-returns-in_ok-channel-in-Get-clause-err : goal.resolve_statement-returns-in_ok-channel-in-Get-clause-err
resolve_statement-returns-in_ok-channel-in-Get-clause-err t c = grind (arith, elements)

pub resolve_statement-returns-in_ok-channel-in-Get-clause-gets : goal.resolve_statement-returns-in_ok-channel-in-Get-clause-gets
resolve_statement-returns-in_ok-channel-in-Get-clause-gets t c = grind (arith, elements)

pub resolve_statement-returns-in_ok-channel-in-Get-clause-ok : goal.resolve_statement-returns-in_ok-channel-in-Get-clause-ok
resolve_statement-returns-in_ok-channel-in-Get-clause-ok t c = grind (arith, elements)

pub resolve_statement-returns-in_ok-channel-in-Get-clause-puts : goal.resolve_statement-returns-in_ok-channel-in-Get-clause-puts
resolve_statement-returns-in_ok-channel-in-Get-clause-puts t c = grind (arith, elements)

pub resolve_statement-returns-in_ok-channel-in-Put-clause-err : goal.resolve_statement-returns-in_ok-channel-in-Put-clause-err
resolve_statement-returns-in_ok-channel-in-Put-clause-err t c = grind (arith, elements)

pub resolve_statement-returns-in_ok-channel-in-Put-clause-gets : goal.resolve_statement-returns-in_ok-channel-in-Put-clause-gets
resolve_statement-returns-in_ok-channel-in-Put-clause-gets t c = grind (arith, elements)

pub resolve_statement-returns-in_ok-channel-in-Put-clause-ok : goal.resolve_statement-returns-in_ok-channel-in-Put-clause-ok
resolve_statement-returns-in_ok-channel-in-Put-clause-ok t c = grind (arith, elements)

pub resolve_statement-returns-in_ok-channel-in-Put-clause-puts : goal.resolve_statement-returns-in_ok-channel-in-Put-clause-puts
resolve_statement-returns-in_ok-channel-in-Put-clause-puts t c = grind (arith, elements)

pub resolve_statement-returns-in_ok-second-in-If-clause-err : goal.resolve_statement-returns-in_ok-second-in-If-clause-err
resolve_statement-returns-in_ok-second-in-If-clause-err t c = grind (arith, elements)

pub resolve_statement-returns-in_ok-value-in-Assign-clause-err : goal.resolve_statement-returns-in_ok-value-in-Assign-clause-err
resolve_statement-returns-in_ok-value-in-Assign-clause-err t c = grind (arith, elements)

pub resolve_statement-returns-in_ok-value-in-Assign-clause-gets : goal.resolve_statement-returns-in_ok-value-in-Assign-clause-gets
resolve_statement-returns-in_ok-value-in-Assign-clause-gets t c = grind (arith, elements)

pub resolve_statement-returns-in_ok-value-in-Assign-clause-ok : goal.resolve_statement-returns-in_ok-value-in-Assign-clause-ok
resolve_statement-returns-in_ok-value-in-Assign-clause-ok t c = grind (arith, elements)

pub resolve_statement-returns-in_ok-value-in-Assign-clause-puts : goal.resolve_statement-returns-in_ok-value-in-Assign-clause-puts
resolve_statement-returns-in_ok-value-in-Assign-clause-puts t c = grind (arith, elements)

pub resolve_statements-returns-clause-err : goal.resolve_statements-returns-clause-err
resolve_statements-returns-clause-err t c = grind (arith, elements)

pub resolve_statements-returns-clause-gets : goal.resolve_statements-returns-clause-gets
resolve_statements-returns-clause-gets t c = grind (arith, elements)

pub resolve_statements-returns-clause-ok : goal.resolve_statements-returns-clause-ok
resolve_statements-returns-clause-ok t c = grind (arith, elements)

pub resolve_statements-returns-clause-puts : goal.resolve_statements-returns-clause-puts
resolve_statements-returns-clause-puts t c = grind (arith, elements)

pub resolve_statements-returns-in_err-next-clause-gets : goal.resolve_statements-returns-in_err-next-clause-gets
resolve_statements-returns-in_err-next-clause-gets t c = grind (arith, elements)

pub resolve_statements-returns-in_err-next-clause-ok : goal.resolve_statements-returns-in_err-next-clause-ok
resolve_statements-returns-in_err-next-clause-ok t c = grind (arith, elements)

pub resolve_statements-returns-in_err-next-clause-puts : goal.resolve_statements-returns-in_err-next-clause-puts
resolve_statements-returns-in_err-next-clause-puts t c = grind (arith, elements)

pub resolve_statements-returns-in_err-push-clause-err : goal.resolve_statements-returns-in_err-push-clause-err
resolve_statements-returns-in_err-push-clause-err t c = grind (arith, elements)

pub resolve_statements-returns-in_err-push-clause-gets : goal.resolve_statements-returns-in_err-push-clause-gets
resolve_statements-returns-in_err-push-clause-gets t c = grind (arith, elements)

pub resolve_statements-returns-in_err-push-clause-ok : goal.resolve_statements-returns-in_err-push-clause-ok
resolve_statements-returns-in_err-push-clause-ok t c = grind (arith, elements)

pub resolve_statements-returns-in_err-push-clause-puts : goal.resolve_statements-returns-in_err-push-clause-puts
resolve_statements-returns-in_err-push-clause-puts t c = grind (arith, elements)
