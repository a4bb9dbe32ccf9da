use Rattle.std.proofs.lemmas.Grind.{elements}
use Rattle.std.proofs.Common.{arith}
use Rattle.net_text.specs.Reading.{process_at}
use Rattle.net_text.proofs.parser.Parser.process.Goals as goal

pub returns : goal.returns
unfolding process_at
returns c = grind (arith, elements)

pub returns-in_err-head : goal.returns-in_err-head
unfolding process_at
returns-in_err-head c = grind (arith, elements)

pub returns-in_err-prelude : goal.returns-in_err-prelude
unfolding process_at
returns-in_err-prelude c = grind (arith, elements)

pub returns-in_err-repeated : goal.returns-in_err-repeated
unfolding process_at
returns-in_err-repeated c = grind (arith, elements)

pub returns-in_err-symbol : goal.returns-in_err-symbol
unfolding process_at
returns-in_err-symbol c = grind (arith, elements)

pub returns-in_err-variables : goal.returns-in_err-variables
unfolding process_at
returns-in_err-variables c = grind (arith, elements)
