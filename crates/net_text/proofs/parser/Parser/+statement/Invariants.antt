use Rattle.std.proofs.Common.{◌≡◌, ◌+◌, ◌*◌, length}
use Rattle.net_text.specs.Trees.{block_tree}
use Rattle.net_text.specs.Editions.{Ranged}
use Rattle.net_text.specs.Reading.{statements_at}
use Rattle.net_text.proofs.Many.{after_block}
use Rattle.net_text.proofs.parser.Parser.+statement.Given as goal

abbrev pub decreases-block : goal.decreases-block
decreases-block l = 8 * l.left

abbrev pub decreases-otherwise : goal.decreases-otherwise
decreases-otherwise l = 8 * l.left + 1

abbrev pub decreases-conditional : goal.decreases-conditional
decreases-conditional l = 8 * l.left + 2

abbrev pub decreases-repeat : goal.decreases-repeat
decreases-repeat l = 8 * l.left + 1

abbrev pub decreases-nested : goal.decreases-nested
decreases-nested l = 8 * l.left + 3

abbrev pub decreases-statement : goal.decreases-statement
decreases-statement l = 8 * l.left + 4

abbrev pub decreases-statements : goal.decreases-statements
decreases-statements l = 8 * l.left + 5

abbrev pub invariant-statements-loop-edition : goal.invariant-statements-loop-edition
invariant-statements-loop-edition l =
    after_block (block_tree l.statements.items) (statements_at l.edition Ranged l.left l.self) ≡ statements_at l.edition Ranged l.left l.initial.self

abbrev pub decreases-statements-loop-edition : goal.decreases-statements-loop-edition
decreases-statements-loop-edition l = length l.self
