use Rattle.std.proofs.Common.{arith}
use Rattle.std.proofs.lemmas.Grind.{elements}
use Rattle.node_memory.proofs.choosing.comes_first.Goals as goal

pub returns-then-from-start : goal.returns-then-from-start
returns-then-from-start c = grind (arith, elements)

pub returns-2 : goal.returns-2
returns-2 c = grind (arith, elements)

pub returns : goal.returns
returns c = grind (arith, elements)
