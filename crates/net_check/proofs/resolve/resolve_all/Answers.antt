use Rattle.std.proofs.lemmas.Grind.{elements}
use Rattle.std.proofs.Common.{◌∙◌, sym, ap, arith, length, ◌+◌}
use Rattle.std.proofs.lemmas.Result.{err_from_is_err_and}
use Rattle.std.proofs.lemmas.List.{length_push}
use Rattle.net_text.specs.Trees.{process_tree}
use Rattle.net_check.proofs.Places.{got_at, got_map}
use Rattle.net_check.proofs.Joining.{process_fault, resolved_more}
use Rattle.net_check.proofs.resolve.resolve_all.Goals as goal

pub resolve_process-requires-clause-node : goal.resolve_process-requires-clause-node
resolve_process-requires-clause-node c =
    let ps = c.args.processes.now in
    let i = c.loop-number.number in
    let p = c.index-processes-number.result in
    c.requires i (process_tree p)
    (got_map process_tree ps i p (got_at ps i p (omega arith) c.index-processes-number.is))

pub returns-in_err-next-clause-err : goal.returns-in_err-next-clause-err
returns-in_err-next-clause-err c =
    let p = err_from_is_err_and c.from_residual-in_err-next.result c.from_residual-in_err-next.ensures.1 in
    rw (p.1, p.2)
    (process_fault _ c.args.processes.now c.loop-number.number c.index-processes-number.result
    _ _ _ _ (omega arith) c.index-processes-number.is c.loop-number.invariant.resolved c.in_err-next.ensures.err)

pub loop-number-preserved : goal.loop-number-preserved
loop-number-preserved c =
    let inv = c.loop-number.invariant in
    let out = c.in_ok-push.ensures.items in
    record {
      count = ap length out ∙ length_push _ _ ∙ ap (λ (k : _). k + 1) inv.count;
      resolved =
          rw out (resolved_more _ c.args.processes.now c.loop-number.number c.index-processes-number.result
          c.loop-number.resolved.items c.in_ok-next.next _ _ _ _ (omega arith) c.index-processes-number.is
          (sym inv.count) inv.resolved c.in_ok-next.ensures.ok c.in_ok-next.ensures.puts c.in_ok-next.ensures.gets);
    }

pub returns-clause-err : goal.returns-clause-err
returns-clause-err c = grind (arith, elements)

pub returns-clause-ok : goal.returns-clause-ok
returns-clause-ok c = grind (arith, elements)

pub returns-in_err-ends-clause-err : goal.returns-in_err-ends-clause-err
returns-in_err-ends-clause-err c = grind (arith, elements)

pub returns-in_err-ends-clause-ok : goal.returns-in_err-ends-clause-ok
returns-in_err-ends-clause-ok c = grind (arith, elements)

pub returns-in_err-next-clause-ok : goal.returns-in_err-next-clause-ok
returns-in_err-next-clause-ok c = grind (arith, elements)

pub returns-in_err-push-clause-err : goal.returns-in_err-push-clause-err
returns-in_err-push-clause-err c = grind (arith, elements)

pub returns-in_err-push-clause-ok : goal.returns-in_err-push-clause-ok
returns-in_err-push-clause-ok c = grind (arith, elements)

pub loop-number-init : goal.loop-number-init
loop-number-init c = grind (arith, elements)
