use Rattle.std.proofs.Common.{sym, ◌∙◌}
use Rattle.net_text.specs.Editions.{Ranged}
use Rattle.net_text.specs.Trees.{declaration_tree}
use Rattle.net_text.proofs.Loops.{declaration_shortens, declarations_more}
use Rattle.net_text.proofs.parser.Parser.declarations.Goals as goal

pub loop-edition-smaller : goal.loop-edition-smaller
loop-edition-smaller c =
    declaration_shortens c.args.edition Ranged c.args.left c.loop-edition.self
    (declaration_tree c.in_ok-declaration.declaration, c.declaration.new.self) c.in_ok-declaration.ensures

pub loop-edition-preserved : goal.loop-edition-preserved
loop-edition-preserved c =
    rw c.in_ok-push.ensures.items
    (sym (declarations_more c.args.edition Ranged c.args.left c.loop-edition.declarations.items c.in_ok-declaration.declaration c.loop-edition.self
    c.declaration.new.self (sym c.loop-edition-test.ensures) c.in_ok-declaration.ensures) ∙ c.loop-edition.invariant)
