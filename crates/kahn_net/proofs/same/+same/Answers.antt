use Rattle.std.proofs.Common.{◌≡◌, ◌∙◌, ap, sym, arith}
use Rattle.std.proofs.lemmas.Bool.{false≢true}
use Rattle.kahn_net.specs.Syntax.{links_of, tree_of}
use Rattle.kahn_net.proofs.Alike.{as_many_links, chains_same}
use Rattle.std.proofs.lemmas.Grind.{common_steps}
use Rattle.kahn_net.proofs.same.+same.Goals as goal

pub is_same_expr-returns-then-is_same_expr : goal.is_same_expr-returns-then-is_same_expr
is_same_expr-returns-then-is_same_expr t c =
    let both =
    chains_same c.args.a.now c.args.b.now c.in-Chain.first c.in-Chain-b.other c.in-Chain.links c.in-Chain-b.others
    c.in-Chain.is c.in-Chain-b.is in
    let one : tree_of c.in-Chain.first.value ≡ tree_of c.in-Chain-b.other.value =
    ap tree_of (sym c.deref-in-Chain-b.ensures) ∙ c.is_same_expr-in-Chain-b.ensures.0 c.if-is_same_expr.true
    ∙ ap tree_of c.deref-in-Chain-b-2.ensures in (
      λ h. both.1 (
        one,
        ap links_of (sym c.deref-then-is_same_expr.ensures.value) ∙ c.is_same_links.ensures.0 h
            ∙ ap links_of c.deref-then-is_same_expr-2.ensures.value,
      ),
      λ e. c.is_same_links.ensures.1
          (ap links_of c.deref-then-is_same_expr.ensures.value ∙ (both.0 e).1
          ∙ ap links_of (sym c.deref-then-is_same_expr-2.ensures.value)),
    )

pub is_same_links-returns-then-a-b : goal.is_same_links-returns-then-a-b
is_same_links-returns-then-a-b t c =
    (λ h. absurd (false≢true h), λ h. let many = as_many_links c.args.a.now c.args.b.now h in absurd (omega arith))

pub is_same_links-loop-i-preserved : goal.is_same_links-loop-i-preserved
is_same_links-loop-i-preserved c = grind (arith, common_steps)
