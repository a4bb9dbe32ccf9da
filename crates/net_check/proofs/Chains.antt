-- Chains of the text, and what they are resolved to.
use Rattle.std.proofs.Common.{◌≡◌, ◌∙◌, ℕ, ◌+◌, List, ◌++◌, map, drop, sym, ap, subst, Box, Vec, Global, arith}
use Rattle.net_text.specs.Names.{NameTree}
use Rattle.net_text.specs.Trees.{ExprTree, ChainTree, expr_tree, link_tree, links_tree}
use Rattle.net_text.specs.TreeLaws.{chain_tree}
use Rattle.net_text.specs.declared.tree.LinkText.{LinkText}
use Rattle.net_text.specs.declared.tree.ExprText.{ExprText}
use Rattle.net_text.specs.declared.tree.ExprText.TheViews as text
use Rattle.kahn_net.specs.declared.program.Link.{Link}
use Rattle.kahn_net.specs.declared.program.Expr.{Expr}
use Rattle.kahn_net.specs.declared.program.Expr.TheViews as view
use Rattle.kahn_net.specs.Common.{Tree, links_of, tree_of}
use Rattle.kahn_net.specs.Laws.Syntax.{chain_of}
use Rattle.net_check.specs.Resolution.{ResolvesExpr, ResolvesLinks}
use Rattle.net_check.specs.Texts.{expr_units_text, links_units_text}
use Rattle.net_check.specs.Uses.{expr_uses, links_uses}
use Rattle.net_check.proofs.Using.{Within, within_left_at, within_right}

-- the tree of an expression that code finds to be a chain
tree_is : (e : ExprText) (first : Box ExprText Global) (links : Vec LinkText Global) → e ≡ text.Chain first links
    → expr_tree e ≡ ChainTree (expr_tree first.value) (links_tree (map link_tree links.items))
tree_is e first links h = ap expr_tree h ∙ chain_tree first links

-- its units, before its links are counted
pub units_start : (e value : ExprText) (first : Box ExprText Global) (links : Vec LinkText Global)
    (items : List LinkText) (rest left : ℕ) → e ≡ text.Chain first links → items ≡ links.items → value ≡ first.value
    → rest + expr_units_text (expr_tree value) ≡ left
    → rest + expr_units_text (expr_tree e) ≡ left + links_units_text (links_tree (map link_tree (drop 0 items)))
units_start e value first links items rest left h k v counted =
    let whole : expr_units_text (expr_tree e)
    ≡ expr_units_text (expr_tree value) + links_units_text (links_tree (map link_tree items)) =
    ap expr_units_text (tree_is e first links h)
    ∙ ap (λ (x : ExprText). expr_units_text (expr_tree x) + links_units_text (links_tree (map link_tree links.items)))
    (sym v)
    ∙ ap (λ (ls : List LinkText). expr_units_text (expr_tree value) + links_units_text (links_tree (map link_tree ls)))
    (sym k) in
    omega arith

-- what its first value uses, and what its links use
pub within_first_value : (e value : ExprText) (first : Box ExprText Global) (links : Vec LinkText Global)
    → e ≡ text.Chain first links → value ≡ first.value → Within (expr_uses (expr_tree value)) (expr_uses (expr_tree e))
within_first_value e value first links h v =
    subst (λ (t : ExprTree). Within (expr_uses (expr_tree value)) (expr_uses t)) (sym (tree_is e first links h))
    (within_left_at (expr_uses (expr_tree first.value)) (expr_uses (expr_tree value))
    (links_uses (links_tree (map link_tree links.items))) (ap (λ (x : ExprText). expr_uses (expr_tree x)) v))

pub within_links : (e : ExprText) (first : Box ExprText Global) (links : Vec LinkText Global) (items : List LinkText)
    → e ≡ text.Chain first links → items ≡ links.items
    → Within (links_uses (links_tree (map link_tree items))) (expr_uses (expr_tree e))
within_links e first links items h k =
    subst (λ (t : ExprTree). Within (links_uses (links_tree (map link_tree items))) (expr_uses t))
    (sym (tree_is e first links h))
    (subst (λ (ls : List LinkText). Within (links_uses (links_tree (map link_tree items)))
    (expr_uses (expr_tree first.value) ++ links_uses (links_tree (map link_tree ls)))) k
    (within_right (expr_uses (expr_tree first.value)) (links_uses (links_tree (map link_tree items)))))

-- a chain is resolved to a chain
pub chain_resolves : (vs : List NameTree) (e value : ExprText) (first : Box ExprText Global)
    (links : Vec LinkText Global) (items : List LinkText) (made : Expr) (box : Box Expr Global)
    (resolved : Vec Link Global) → e ≡ text.Chain first links → items ≡ links.items → value ≡ first.value
    → box.value ≡ made
    → ResolvesExpr vs (expr_tree value) (tree_of made)
    → ResolvesLinks vs (links_tree (map link_tree items)) (links_of resolved.items)
    → ResolvesExpr vs (expr_tree e) (tree_of (view.Chain box resolved))
chain_resolves vs e value first links items made box resolved h k v b one more =
    subst (λ (t : ExprTree). ResolvesExpr vs t (tree_of (view.Chain box resolved))) (sym (tree_is e first links h))
    (subst (λ (t : Tree). ResolvesExpr vs (ChainTree (expr_tree first.value) (links_tree (map link_tree links.items)))
    t) (sym (chain_of box resolved)) (
      subst (λ (x : ExprText). ResolvesExpr vs (expr_tree x) (tree_of box.value)) v
          (subst (λ (x : Expr). ResolvesExpr vs (expr_tree value) (tree_of x)) (sym b) one),
      subst (λ (ls : List LinkText). ResolvesLinks vs (links_tree (map link_tree ls)) (links_of resolved.items)) k more,
    ))
