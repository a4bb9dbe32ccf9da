use Rattle.std.proofs.Common.{◌++◌, ◌∙◌, ap}
use Rattle.kahn_net.specs.Common.{tree_of}
use Rattle.kahn_net.specs.declared.program.Expr.{Expr}
use Rattle.proc_code.specs.Translation.{code_to, link_to, operand_of}
use Rattle.proc_code.proofs.Emitted.{chain_starts}
use Rattle.std.proofs.lemmas.Grind.{common_steps}
use Rattle.std.proofs.Common.{arith}
use Rattle.proc_code.proofs.emitting.+emit_expr.Goals as goal

pub loop-link-init : goal.loop-link-init
loop-link-init t c =
    chain_starts c.args.expr.now c.in-Chain.first c.in-Chain.links c.deref-link-items.result.now c.args.code.now.items
    c.emit_expr-in-Chain.new.code.items c.args.to c.in_ok-left-in-Chain.left c.len-later.result c.in-Chain.is c.deref-link-items.ensures.value
    (c.in_ok-left-in-Chain.ensures.value ∙ ap (λ (e : Expr). operand_of (tree_of e)) c.deref-in-Chain.ensures)
    (c.len-later.ensures ∙ c.in-Chain.links.ok.0)
    (rw (← c.link_to.ensures) (c.in_ok-left-in-Chain.ensures.code
    ∙ ap (λ (e : Expr). c.args.code.now.items ++ code_to c.link_to.result (tree_of e)) c.deref-in-Chain.ensures))

pub returns-in_ok-emit-in-Negate-clause-code : goal.returns-in_ok-emit-in-Negate-clause-code
returns-in_ok-emit-in-Negate-clause-code c = grind (arith, common_steps)

pub returns-after-loop-link-clause-code : goal.returns-after-loop-link-clause-code
returns-after-loop-link-clause-code c = grind (arith, common_steps)

pub returns-after-loop-link-clause-value : goal.returns-after-loop-link-clause-value
returns-after-loop-link-clause-value c = grind (arith, common_steps)

pub overflow_sub-later : goal.overflow_sub-later
overflow_sub-later c = grind (arith, common_steps)

pub loop-link-preserved : goal.loop-link-preserved
loop-link-preserved c = grind (arith, common_steps)
