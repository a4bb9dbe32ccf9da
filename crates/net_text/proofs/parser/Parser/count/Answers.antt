use Rattle.std.proofs.lemmas.Grind.{elements}
use Rattle.std.proofs.Common.{arith}
use Rattle.net_text.specs.Reading.{count_at}
use Rattle.net_text.proofs.parser.Parser.count.Goals as goal

pub returns-else-number : goal.returns-else-number
unfolding count_at
returns-else-number c = grind (arith, elements)

pub returns-in-empty : goal.returns-in-empty
unfolding count_at
returns-in-empty c = grind (arith, elements)

pub returns-in_default : goal.returns-in_default
unfolding count_at
returns-in_default c = grind (arith, elements)

pub returns-then-number-lt1 : goal.returns-then-number-lt1
unfolding count_at
returns-then-number-lt1 c = grind (arith, elements)
