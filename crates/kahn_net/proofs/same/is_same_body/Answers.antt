use Rattle.std.proofs.lemmas.Grind.{elements}
use Rattle.std.proofs.Common.{arith}
use Rattle.kahn_net.proofs.same.is_same_body.Goals as goal

pub returns-in-None : goal.returns-in-None
returns-in-None c = grind (arith, elements)

pub returns-in-Some-b : goal.returns-in-Some-b
returns-in-Some-b c = grind (arith, elements)

pub returns-in-None-b : goal.returns-in-None-b
returns-in-None-b c = grind (arith, elements)
