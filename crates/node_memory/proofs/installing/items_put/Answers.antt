use Rattle.std.proofs.Common.{arith}
use Rattle.std.proofs.lemmas.Grind.{elements}
use Rattle.node_memory.proofs.installing.items_put.Goals as goal

pub returns-in-Some-get : goal.returns-in-Some-get
returns-in-Some-get c = grind (arith, elements)

pub returns-in_default : goal.returns-in_default
returns-in_default c = grind (arith, elements)
