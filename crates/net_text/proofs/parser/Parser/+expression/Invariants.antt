use Rattle.std.proofs.Common.{◌≡◌, ◌+◌, ◌*◌, length, map}
use Rattle.net_text.specs.Trees.{link_tree}
use Rattle.net_text.specs.Reading.{links_at}
use Rattle.net_text.proofs.Depth.{at_level}
use Rattle.net_text.proofs.Many.{after_items}
use Rattle.net_text.proofs.parser.Parser.+expression.Given as goal

abbrev pub decreases-parenthesised : goal.decreases-parenthesised
decreases-parenthesised l = 16 * l.left

abbrev pub decreases-minus : goal.decreases-minus
decreases-minus l = 16 * l.left

abbrev pub decreases-factor : goal.decreases-factor
decreases-factor l = 16 * l.left + 1

abbrev pub decreases-operand : goal.decreases-operand
decreases-operand l = at_level l.left l.level 2

abbrev pub decreases-link : goal.decreases-link
decreases-link l = at_level l.left l.level 3

abbrev pub decreases-links : goal.decreases-links
decreases-links l = at_level l.left l.level 4

abbrev pub decreases-chain : goal.decreases-chain
decreases-chain l = at_level l.left l.level 5

abbrev pub decreases-expr : goal.decreases-expr
decreases-expr l = 16 * l.left + 15

abbrev pub invariant-links-loop-edition : goal.invariant-links-loop-edition
invariant-links-loop-edition l =
    after_items (map link_tree l.links.items) (links_at l.edition l.level l.left l.self) ≡ links_at l.edition l.level l.left l.initial.self

abbrev pub decreases-links-loop-edition : goal.decreases-links-loop-edition
decreases-links-loop-edition l = length l.self
