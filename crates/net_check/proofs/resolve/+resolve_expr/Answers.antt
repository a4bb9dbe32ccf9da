use Rattle.std.proofs.lemmas.Grind.{elements}
use Rattle.std.proofs.Common.{arith, ◌≡◌, refl, map, take, subst, List}
use Rattle.std.proofs.lemmas.Result.{err_from_is_err_and}
use Rattle.std.proofs.lemmas.List.{take_all}
use Rattle.net_text.specs.declared.tree.LinkText.{LinkText}
use Rattle.net_text.specs.Trees.{link_tree, links_tree}
use Rattle.net_check.specs.Resolution.{ResolvesLinks, variable_names}
use Rattle.kahn_net.specs.Common.{links_of}
use Rattle.net_check.proofs.Chains.{chain_resolves, within_first_value, within_links}
use Rattle.net_check.proofs.Resolving.{links_more}
use Rattle.net_check.proofs.Using.{name_more, within_link, within_then}
use Rattle.net_check.proofs.resolve.+resolve_expr.Goals as goal

pub returns-in_err-first-in-Chain-clause-err : goal.returns-in_err-first-in-Chain-clause-err
returns-in_err-first-in-Chain-clause-err t c =
    let p = err_from_is_err_and c.from_residual-in_err-first-in-Chain.result
    c.from_residual-in_err-first-in-Chain.ensures.1 in
    rw (p.1, p.2)
    (name_more
    _ _ _ _ _ (within_first_value c.args.expr.now c.deref-in-Chain.result.now c.in-Chain.first c.in-Chain.links
    c.in-Chain.is c.deref-in-Chain.ensures) c.in_err-first-in-Chain.ensures.err)

pub returns-in_err-value-in-Chain-clause-err : goal.returns-in_err-value-in-Chain-clause-err
returns-in_err-value-in-Chain-clause-err t c =
    let p = err_from_is_err_and c.from_residual-in_err-value-in-Chain.result
    c.from_residual-in_err-value-in-Chain.ensures.1 in
    let one =
    within_link c.deref-link-items.result.now c.loop-link.link-index c.link-item.result (omega arith)
    c.link-item.is in
    let all =
    within_links c.args.expr.now c.in-Chain.first c.in-Chain.links c.deref-link-items.result.now c.in-Chain.is
    c.deref-link-items.ensures.value in
    rw (p.1, p.2) (name_more _ _ _ _ _ (within_then _ _ _ one all) c.in_err-value-in-Chain.ensures.err)

pub loop-link-preserved : goal.loop-link-preserved
loop-link-preserved t c =
    rw c.in_ok-push-in-Chain.ensures.items
    (links_more _ c.deref-link-items.result.now c.loop-link.link-index c.loop-link.resolved.items
    c.link-item.result _ (omega arith) c.link-item.is c.loop-link.invariant refl c.in_ok-value-in-Chain.ensures.ok)

pub returns-after-loop-link-clause-ok : goal.returns-after-loop-link-clause-ok
returns-after-loop-link-clause-ok t c =
    let end : take c.loop-link.link-index c.deref-link-items.result.now ≡ c.deref-link-items.result.now =
    take_all c.loop-link.link-index c.deref-link-items.result.now (omega arith) in
    let more =
    subst (λ (ls : List LinkText). ResolvesLinks (variable_names c.args.scope.now.variables.now)
    (links_tree (map link_tree ls)) (links_of c.loop-link.resolved.items)) end c.loop-link.invariant in
    chain_resolves _ c.args.expr.now c.deref-in-Chain.result.now c.in-Chain.first c.in-Chain.links
    c.deref-link-items.result.now c.in_ok-first-in-Chain.first c.in_ok-first-in-Chain-2.first c.loop-link.resolved
    c.in-Chain.is c.deref-link-items.ensures.value c.deref-in-Chain.ensures c.in_ok-first-in-Chain-2.ensures.ok
    c.in_ok-first-in-Chain.ensures.ok more

pub returns-after-loop-link-clause-err : goal.returns-after-loop-link-clause-err
returns-after-loop-link-clause-err t c = grind (arith, elements)

pub returns-in-Literal-clause-err : goal.returns-in-Literal-clause-err
returns-in-Literal-clause-err t c = grind (arith, elements)

pub returns-in-Literal-clause-ok : goal.returns-in-Literal-clause-ok
returns-in-Literal-clause-ok t c = grind (arith, elements)

pub returns-in_err-first-in-Chain-2-clause-err : goal.returns-in_err-first-in-Chain-2-clause-err
returns-in_err-first-in-Chain-2-clause-err t c = grind (arith, elements)

pub returns-in_err-first-in-Chain-2-clause-ok : goal.returns-in_err-first-in-Chain-2-clause-ok
returns-in_err-first-in-Chain-2-clause-ok t c = grind (arith, elements)

pub returns-in_err-first-in-Chain-clause-ok : goal.returns-in_err-first-in-Chain-clause-ok
returns-in_err-first-in-Chain-clause-ok t c = grind (arith, elements)

pub returns-in_err-push-in-Chain-clause-err : goal.returns-in_err-push-in-Chain-clause-err
returns-in_err-push-in-Chain-clause-err t c = grind (arith, elements)

pub returns-in_err-push-in-Chain-clause-ok : goal.returns-in_err-push-in-Chain-clause-ok
returns-in_err-push-in-Chain-clause-ok t c = grind (arith, elements)

pub returns-in_err-value-in-Chain-clause-ok : goal.returns-in_err-value-in-Chain-clause-ok
returns-in_err-value-in-Chain-clause-ok t c = grind (arith, elements)

pub returns-in_err-value-in-Negate-2-clause-err : goal.returns-in_err-value-in-Negate-2-clause-err
returns-in_err-value-in-Negate-2-clause-err t c = grind (arith, elements)

pub returns-in_err-value-in-Negate-2-clause-ok : goal.returns-in_err-value-in-Negate-2-clause-ok
returns-in_err-value-in-Negate-2-clause-ok t c = grind (arith, elements)

pub returns-in_err-value-in-Negate-clause-err : goal.returns-in_err-value-in-Negate-clause-err
returns-in_err-value-in-Negate-clause-err t c = grind (arith, elements)

pub returns-in_err-value-in-Negate-clause-ok : goal.returns-in_err-value-in-Negate-clause-ok
returns-in_err-value-in-Negate-clause-ok t c = grind (arith, elements)

pub returns-in_err-variable-in-Variable-clause-err : goal.returns-in_err-variable-in-Variable-clause-err
returns-in_err-variable-in-Variable-clause-err t c = grind (arith, elements)

pub returns-in_err-variable-in-Variable-clause-ok : goal.returns-in_err-variable-in-Variable-clause-ok
returns-in_err-variable-in-Variable-clause-ok t c = grind (arith, elements)

pub returns-in_ok-value-in-Negate-2-clause-err : goal.returns-in_ok-value-in-Negate-2-clause-err
returns-in_ok-value-in-Negate-2-clause-err t c = grind (arith, elements)

pub returns-in_ok-value-in-Negate-2-clause-ok : goal.returns-in_ok-value-in-Negate-2-clause-ok
returns-in_ok-value-in-Negate-2-clause-ok t c = grind (arith, elements)

pub returns-in_ok-variable-in-Variable-clause-err : goal.returns-in_ok-variable-in-Variable-clause-err
returns-in_ok-variable-in-Variable-clause-err t c = grind (arith, elements)

pub returns-in_ok-variable-in-Variable-clause-ok : goal.returns-in_ok-variable-in-Variable-clause-ok
returns-in_ok-variable-in-Variable-clause-ok t c = grind (arith, elements)
