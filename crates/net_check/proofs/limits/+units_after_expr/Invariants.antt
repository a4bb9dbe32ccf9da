use Rattle.std.proofs.Common.{◌≡◌, ◌+◌, drop, map}
use Rattle.net_text.specs.Trees.{expr_tree, link_tree, links_tree}
use Rattle.net_check.specs.Texts.{expr_units_text, links_units_text}
use Rattle.net_check.proofs.limits.+units_after_expr.Given as goal

abbrev pub invariant-loop-link : goal.invariant-loop-link
invariant-loop-link l =
    l.rest + expr_units_text (expr_tree l.fn.expr)
    ≡ l.fn.left + links_units_text (links_tree (map link_tree (drop l.link-index l.link-items)))
