use Rattle.std.proofs.Common.{arith}
use Rattle.std.proofs.lemmas.Grind.{elements}
use Rattle.node_memory.proofs.choosing.has_item.Goals as goal

pub returns-in-None : goal.returns-in-None
returns-in-None c = grind (arith, elements)

pub returns-in-Process : goal.returns-in-Process
returns-in-Process c = grind (arith, elements)
