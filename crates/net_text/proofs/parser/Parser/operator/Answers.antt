use Rattle.std.proofs.lemmas.Grind.{elements}
use Rattle.std.proofs.Common.{arith}
use Rattle.net_text.specs.Reading.{operator_at}
use Rattle.net_text.proofs.parser.Parser.operator.Goals as goal

pub returns-in-empty : goal.returns-in-empty
unfolding operator_at
returns-in-empty c = grind (arith, elements)
