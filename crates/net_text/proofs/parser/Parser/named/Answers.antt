use Rattle.std.proofs.lemmas.Grind.{elements}
use Rattle.std.proofs.Common.{arith}
use Rattle.net_text.specs.Reading.{named_at}
use Rattle.net_text.proofs.parser.Parser.named.Goals as goal

pub returns : goal.returns
unfolding named_at
returns c = grind (arith, elements)

pub returns-in_err-channel : goal.returns-in_err-channel
unfolding named_at
returns-in_err-channel c = grind (arith, elements)

pub returns-in_err-symbol : goal.returns-in_err-symbol
unfolding named_at
returns-in_err-symbol c = grind (arith, elements)

pub returns-in_err-value : goal.returns-in_err-value
unfolding named_at
returns-in_err-value c = grind (arith, elements)

pub returns-in_err-variable : goal.returns-in_err-variable
unfolding named_at
returns-in_err-variable c = grind (arith, elements)

pub returns-then-begins_with_word : goal.returns-then-begins_with_word
unfolding named_at
returns-then-begins_with_word c = grind (arith, elements)
