use Rattle.std.proofs.lemmas.Grind.{elements}
use Rattle.std.proofs.Common.{arith}
use Rattle.std.proofs.Common.{ap, List}
use Rattle.std.proofs.lemmas.Result.{err_from_is_err_and}
use Rattle.net_text.specs.Trees.{block_tree, repeated_tree}
use Rattle.net_text.specs.declared.tree.StatementText.{StatementText}
use Rattle.net_check.specs.Uses.{block_uses, loop_uses}
use Rattle.net_check.proofs.Using.{use_as, within_left_at, within_right}
use Rattle.net_check.proofs.Resolving.{use_earlier}
use Rattle.net_check.proofs.resolve.resolve_process.Goals as goal

pub returns-in_err-prelude-clause-err : goal.returns-in_err-prelude-clause-err
returns-in_err-prelude-clause-err c =
    let p = err_from_is_err_and c.from_residual.result c.from_residual.ensures.1 in
    rw (p.1, p.2)
    (use_as _ _ _ _ _ _ _ _ _ c.deref.ensures.value
    (within_left_at _ _ _ (ap (λ (ts : List StatementText). block_uses (block_tree ts)) c.deref-2.ensures.value))
    c.in_err-prelude.ensures.err)

pub returns-in_err-body-clause-err : goal.returns-in_err-body-clause-err
returns-in_err-body-clause-err c =
    let p = err_from_is_err_and c.from_residual-in_err-body.result c.from_residual-in_err-body.ensures.1 in
    rw (p.1, p.2)
    (use_as _ _ _ _ _ _ _ _ _ c.deref.ensures.value
    (within_right (block_uses (block_tree c.args.process.now.prelude.items))
    (loop_uses (repeated_tree c.args.process.now.repeated)))
    (use_earlier _ _ _ _ _ _ _ _ _ _ _ c.in_ok-prelude.ensures.puts c.in_ok-prelude.ensures.gets
    c.in_err-body.ensures.err))

pub returns-clause-err : goal.returns-clause-err
returns-clause-err c = grind (arith, elements)

pub returns-clause-gets : goal.returns-clause-gets
returns-clause-gets c = grind (arith, elements)

pub returns-clause-ok : goal.returns-clause-ok
returns-clause-ok c = grind (arith, elements)

pub returns-clause-puts : goal.returns-clause-puts
returns-clause-puts c = grind (arith, elements)

pub returns-in_err-body-clause-gets : goal.returns-in_err-body-clause-gets
returns-in_err-body-clause-gets c = grind (arith, elements)

pub returns-in_err-body-clause-ok : goal.returns-in_err-body-clause-ok
returns-in_err-body-clause-ok c = grind (arith, elements)

pub returns-in_err-body-clause-puts : goal.returns-in_err-body-clause-puts
returns-in_err-body-clause-puts c = grind (arith, elements)

pub returns-in_err-prelude-clause-gets : goal.returns-in_err-prelude-clause-gets
returns-in_err-prelude-clause-gets c = grind (arith, elements)

pub returns-in_err-prelude-clause-ok : goal.returns-in_err-prelude-clause-ok
returns-in_err-prelude-clause-ok c = grind (arith, elements)

pub returns-in_err-prelude-clause-puts : goal.returns-in_err-prelude-clause-puts
returns-in_err-prelude-clause-puts c = grind (arith, elements)

pub returns-in_err-variables-clause-err : goal.returns-in_err-variables-clause-err
returns-in_err-variables-clause-err c = grind (arith, elements)

pub returns-in_err-variables-clause-gets : goal.returns-in_err-variables-clause-gets
returns-in_err-variables-clause-gets c = grind (arith, elements)

pub returns-in_err-variables-clause-ok : goal.returns-in_err-variables-clause-ok
returns-in_err-variables-clause-ok c = grind (arith, elements)

pub returns-in_err-variables-clause-puts : goal.returns-in_err-variables-clause-puts
returns-in_err-variables-clause-puts c = grind (arith, elements)
