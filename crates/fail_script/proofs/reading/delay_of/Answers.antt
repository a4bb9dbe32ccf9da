use Rattle.std.proofs.lemmas.Grind.{elements}
use Rattle.std.proofs.Common.{arith}
use Rattle.fail_script.proofs.reading.delay_of.Goals as goal

pub returns-in_err-from : goal.returns-in_err-from
returns-in_err-from c = grind (arith, elements)

pub returns-in_err-rounds : goal.returns-in_err-rounds
returns-in_err-rounds c = grind (arith, elements)

pub returns : goal.returns
returns c = grind (arith, elements)

pub bounds-words-4 : goal.bounds-words-4
bounds-words-4 c = grind (arith, elements)
