use Rattle.std.proofs.lemmas.Grind.{elements}
use Rattle.std.proofs.Common.{arith}
use Rattle.fail_script.proofs.reading.failure_of.Goals as goal

pub returns-in_err-node : goal.returns-in_err-node
returns-in_err-node c = grind (arith, elements)

pub returns-in_err-count : goal.returns-in_err-count
returns-in_err-count c = grind (arith, elements)

pub returns : goal.returns
returns c = grind (arith, elements)
