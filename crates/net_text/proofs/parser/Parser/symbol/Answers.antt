use Rattle.std.proofs.lemmas.Grind.{elements}
use Rattle.std.proofs.Common.{arith}
use Rattle.net_text.specs.Reading.{symbol_at}
use Rattle.net_text.proofs.parser.Parser.symbol.Goals as goal

pub returns-in-empty : goal.returns-in-empty
unfolding symbol_at
returns-in-empty c = grind (arith, elements)

pub returns-in-len1-up : goal.returns-in-len1-up
unfolding symbol_at
returns-in-len1-up c = grind (arith, elements)

pub returns-in-len1-up-2 : goal.returns-in-len1-up-2
unfolding symbol_at
returns-in-len1-up-2 c = grind (arith, elements)
