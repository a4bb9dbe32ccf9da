use Rattle.std.proofs.Common.{◌≡◌, length, map}
use Rattle.net_text.specs.Trees.{declaration_tree}
use Rattle.net_text.specs.Editions.{Ranged}
use Rattle.net_text.specs.Reading.{declarations_at}
use Rattle.net_text.proofs.Many.{after_items}
use Rattle.net_text.proofs.parser.Parser.declarations.Given as goal

abbrev pub decreases-loop-edition : goal.decreases-loop-edition
decreases-loop-edition l = length l.self

abbrev pub invariant-loop-edition : goal.invariant-loop-edition
invariant-loop-edition l =
    after_items (map declaration_tree l.declarations.items) (declarations_at l.edition Ranged l.left l.self)
    ≡ declarations_at l.edition Ranged l.left l.initial.self
