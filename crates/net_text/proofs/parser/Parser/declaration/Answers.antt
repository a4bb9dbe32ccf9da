use Rattle.std.proofs.lemmas.Grind.{elements}
use Rattle.std.proofs.Common.{arith}
use Rattle.net_text.specs.Reading.{declaration_at}
use Rattle.net_text.proofs.parser.Parser.declaration.Goals as goal

pub returns : goal.returns
unfolding declaration_at
returns c = grind (arith, elements)

pub returns-in_err-channel : goal.returns-in_err-channel
unfolding declaration_at
returns-in_err-channel c = grind (arith, elements)

pub returns-in_err-channel-2 : goal.returns-in_err-channel-2
unfolding declaration_at
returns-in_err-channel-2 c = grind (arith, elements)

pub returns-in_err-channel-3 : goal.returns-in_err-channel-3
unfolding declaration_at
returns-in_err-channel-3 c = grind (arith, elements)

pub returns-in_err-process : goal.returns-in_err-process
unfolding declaration_at
returns-in_err-process c = grind (arith, elements)

pub returns-then-begins_with_word : goal.returns-then-begins_with_word
unfolding declaration_at
returns-then-begins_with_word c = grind (arith, elements)

pub returns-then-begins_with_word-2 : goal.returns-then-begins_with_word-2
unfolding declaration_at
returns-then-begins_with_word-2 c = grind (arith, elements)

pub returns-then-begins_with_word-3 : goal.returns-then-begins_with_word-3
unfolding declaration_at
returns-then-begins_with_word-3 c = grind (arith, elements)
