use Rattle.std.proofs.Common.{arith}
use Rattle.std.proofs.lemmas.Grind.{elements}
use Rattle.world.proofs.needs.stance_of.Goals as goal

pub returns-in-Some-get : goal.returns-in-Some-get
returns-in-Some-get g c = grind (arith, elements)

pub returns-in-None : goal.returns-in-None
returns-in-None g c = grind (arith, elements)

pub returns-in-None-get : goal.returns-in-None-get
returns-in-None-get g c = grind (arith, elements)
