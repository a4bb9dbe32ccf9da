use Rattle.std.proofs.Common.{arith}
use Rattle.std.proofs.lemmas.Grind.{elements}
use Rattle.node_memory.proofs.installing.count_taken.Goals as goal

pub returns-in_default : goal.returns-in_default
returns-in_default c = grind (arith, elements)

pub returns-in_default-2 : goal.returns-in_default-2
returns-in_default-2 c = grind (arith, elements)

pub returns-in-Some : goal.returns-in-Some
returns-in-Some c = grind (arith, elements)
