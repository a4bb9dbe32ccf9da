use Rattle.std.proofs.lemmas.Grind.{elements}
use Rattle.std.proofs.Common.{arith}
use Rattle.net_check.proofs.Chains.{units_start}
use Rattle.std.proofs.Common.{rules, ◌≡◌, ◌+◌}
use Rattle.net_text.specs.Trees.{expr_tree}
use Rattle.net_check.specs.Texts.{expr_units_text}
use Rattle.net_check.proofs.limits.+units_after_expr.Goals as goal

pub loop-link-init : goal.loop-link-init
loop-link-init t c =
    let counted : c.in_ok-rest-in-Chain.rest + expr_units_text (expr_tree c.deref-in-Chain.result.now) ≡ c.args.left =
    search rules in
    units_start c.args.expr.now c.deref-in-Chain.result.now c.in-Chain.first c.in-Chain.links
    c.deref-link-items.result.now _ c.args.left c.in-Chain.is c.deref-link-items.ensures.value
    c.deref-in-Chain.ensures counted

pub returns-in-Literal : goal.returns-in-Literal
returns-in-Literal t c = grind (arith, elements)

pub returns-in-Variable : goal.returns-in-Variable
returns-in-Variable t c = grind (arith, elements)

pub returns-in_err-rest-in-Chain : goal.returns-in_err-rest-in-Chain
returns-in_err-rest-in-Chain t c = grind (arith, elements)

pub returns-in_err-rest-in-Negate : goal.returns-in_err-rest-in-Negate
returns-in_err-rest-in-Negate t c = grind (arith, elements)

pub returns-in_ok-rest-in-Negate : goal.returns-in_ok-rest-in-Negate
returns-in_ok-rest-in-Negate t c = grind (arith, elements)
