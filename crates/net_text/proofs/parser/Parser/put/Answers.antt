use Rattle.std.proofs.lemmas.Grind.{elements}
use Rattle.std.proofs.Common.{arith}
use Rattle.net_text.specs.Reading.{put_at}
use Rattle.net_text.proofs.parser.Parser.put.Goals as goal

pub returns : goal.returns
unfolding put_at
returns c = grind (arith, elements)

pub returns-in_err-channel : goal.returns-in_err-channel
unfolding put_at
returns-in_err-channel c = grind (arith, elements)

pub returns-in_err-symbol : goal.returns-in_err-symbol
unfolding put_at
returns-in_err-symbol c = grind (arith, elements)

pub returns-in_err-value : goal.returns-in_err-value
unfolding put_at
returns-in_err-value c = grind (arith, elements)

pub returns-in_err-word : goal.returns-in_err-word
unfolding put_at
returns-in_err-word c = grind (arith, elements)

pub returns-in_err-word-2 : goal.returns-in_err-word-2
unfolding put_at
returns-in_err-word-2 c = grind (arith, elements)
