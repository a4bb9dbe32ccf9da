use Rattle.std.proofs.lemmas.Grind.{elements}
use Rattle.std.proofs.Common.{arith}
use Rattle.net_text.specs.Reading.{number_at}
use Rattle.net_text.proofs.parser.Parser.number.Goals as goal

pub returns-in-Number-clause-gives : goal.returns-in-Number-clause-gives
unfolding number_at
returns-in-Number-clause-gives c = grind (arith, elements)

pub returns-in-Number-clause-range : goal.returns-in-Number-clause-range
unfolding number_at
returns-in-Number-clause-range c = grind (arith, elements)

pub returns-in-empty-clause-gives : goal.returns-in-empty-clause-gives
unfolding number_at
returns-in-empty-clause-gives c = grind (arith, elements)

pub returns-in-empty-clause-range : goal.returns-in-empty-clause-range
unfolding number_at
returns-in-empty-clause-range c = grind (arith, elements)
