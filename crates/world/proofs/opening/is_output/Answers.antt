use Rattle.std.proofs.Common.{arith}
use Rattle.std.proofs.lemmas.Grind.{elements}
use Rattle.world.proofs.opening.is_output.Goals as goal

pub returns-in-Process : goal.returns-in-Process
returns-in-Process c = grind (arith, elements)

pub returns-in-None : goal.returns-in-None
returns-in-None c = grind (arith, elements)

pub returns-in-Outside : goal.returns-in-Outside
returns-in-Outside c = grind (arith, elements)
