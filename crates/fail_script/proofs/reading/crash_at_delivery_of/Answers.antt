use Rattle.std.proofs.lemmas.Grind.{elements}
use Rattle.std.proofs.Common.{arith}
use Rattle.fail_script.proofs.reading.crash_at_delivery_of.Goals as goal

pub returns-in_err-node : goal.returns-in_err-node
returns-in_err-node c = grind (arith, elements)

pub returns-in_err-count : goal.returns-in_err-count
returns-in_err-count c = grind (arith, elements)

pub returns-in_err-fill : goal.returns-in_err-fill
returns-in_err-fill c = grind (arith, elements)

pub returns : goal.returns
returns c = grind (arith, elements)

pub bounds-words-4 : goal.bounds-words-4
bounds-words-4 c = grind (arith, elements)

pub bounds-words-5 : goal.bounds-words-5
bounds-words-5 c = grind (arith, elements)
