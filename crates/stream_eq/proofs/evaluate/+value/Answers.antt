use Rattle.std.proofs.Common.{rules, ◌∙◌, ap, w64, FitsSigned}
use Rattle.std.proofs.lemmas.Int.{to_z-of_z}
use Rattle.kahn_net.specs.declared.program.Expr.{Expr}
use Rattle.kahn_net.specs.Common.{value_of, tree_of}
use Rattle.stream_eq.proofs.Chains.{value_starts}
use Rattle.std.proofs.lemmas.Grind.{common_steps}
use Rattle.std.proofs.Common.{arith}
use Rattle.stream_eq.proofs.evaluate.+value.Goals as goal

pub loop-link-init : goal.loop-link-init
loop-link-init t c =
    let f : FitsSigned w64 c.value-total.result = search rules in
    value_starts c.args.expr.now c.in-Chain.first c.in-Chain.links c.deref-link-items.result.now c.args.variables.now
    _ c.in-Chain.is c.deref-link-items.ensures.value
    (to_z-of_z w64 c.value-total.result f ∙ c.value-total.ensures
    ∙ ap (λ (e : Expr). value_of (tree_of e) c.args.variables.now) c.deref-in-Chain.ensures)

pub returns-after-loop-link : goal.returns-after-loop-link
returns-after-loop-link c = grind (arith, common_steps)
