use Rattle.std.proofs.Common.{arith}
use Rattle.std.proofs.lemmas.Grind.{elements}
use Rattle.layout.proofs.addresses.runs_between.Goals as goal

pub returns-then-is_here : goal.returns-then-is_here
returns-then-is_here c = grind (arith, elements)

pub returns-else-is_here : goal.returns-else-is_here
returns-else-is_here c = grind (arith, elements)

pub returns-in-None : goal.returns-in-None
returns-in-None c = grind (arith, elements)
