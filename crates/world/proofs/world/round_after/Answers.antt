use Rattle.std.proofs.Common.{arith}
use Rattle.std.proofs.lemmas.Grind.{elements}
use Rattle.world.proofs.world.round_after.Goals as goal

pub returns-in_default : goal.returns-in_default
returns-in_default g c = grind (arith, elements)

pub returns-in-Idled : goal.returns-in-Idled
returns-in-Idled g c = grind (arith, elements)

pub returns-in_default-2 : goal.returns-in_default-2
returns-in_default-2 g c = grind (arith, elements)
