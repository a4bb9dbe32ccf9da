use Rattle.std.proofs.lemmas.Grind.{elements}
use Rattle.std.proofs.Common.{arith}
use Rattle.net_text.specs.Reading.{word_at}
use Rattle.net_text.proofs.parser.Parser.word.Goals as goal

pub returns-in-empty : goal.returns-in-empty
unfolding word_at
returns-in-empty c = grind (arith, elements)
