use Rattle.std.proofs.Common.{rules, ◌≡◌, ◌∙◌, ◌<◌, length, map, ap}
use Rattle.net_text.specs.Trees.{expr_tree, link_tree}
use Rattle.net_text.specs.Grammar.{chain_of}
use Rattle.net_text.specs.TreeLaws.{chain_tree}
use Rattle.net_text.specs.declared.tree.ExprText.{ExprText}
use Rattle.net_text.proofs.Loops.{chain_made}
use Rattle.std.proofs.lemmas.Grind.{elements}
use Rattle.std.proofs.Common.{arith}
use Rattle.net_text.proofs.parser.chain.Goals as goal

pub returns : goal.returns
returns c =
    let some : 0 < length c.args.links.items = search rules in
    let kept : c.in_ok-new.field-0.value ≡ c.args.first = grind (arith, elements) in
    chain_tree c.in_ok-new.field-0 c.args.links
    ∙ chain_made (expr_tree c.in_ok-new.field-0.value) c.args.links.items some
    ∙ ap (λ (e : ExprText). chain_of (expr_tree e) (map link_tree c.args.links.items)) kept

pub returns-then-is_empty : goal.returns-then-is_empty
returns-then-is_empty c = grind (arith, elements)
