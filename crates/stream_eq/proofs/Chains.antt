-- The value of a chain, before its links are reached.
use Rattle.std.proofs.Common.{◌≡◌, ◌∙◌, ℤ, List, drop, sym, ap, Vec, Box, Global}
use Rattle.kahn_net.specs.Common.{value_of, Tree, links_of, tree_of}
use Rattle.kahn_net.specs.Statements.{value_along}
use Rattle.kahn_net.specs.Laws.Syntax.{chain_of}
use Rattle.kahn_net.specs.declared.program.Link.{Link}
use Rattle.kahn_net.specs.declared.program.Expr.{Expr}
use Rattle.kahn_net.specs.declared.program.Expr.TheViews.{Chain}

pub value_starts : (e : Expr) (first : Box Expr Global) (links : Vec Link Global) (items : List Link) (vars : List ℤ)
    (total : ℤ) → e ≡ Chain first links → items ≡ links.items → total ≡ value_of (tree_of first.value) vars
    → value_along (links_of (drop 0 items)) vars total ≡ value_of (tree_of e) vars
value_starts e first links items vars total h k t =
    ap (λ (z : ℤ). value_along (links_of items) vars z) t
    ∙ ap (λ (is : List Link). value_along (links_of is) vars (value_of (tree_of first.value) vars)) k
    ∙ sym (ap (λ (x : Tree). value_of x vars) (ap tree_of h ∙ chain_of first links))
