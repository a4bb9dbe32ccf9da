use Rattle.std.proofs.lemmas.Grind.{elements}
use Rattle.std.proofs.Common.{arith}
use Rattle.decide_core.proofs.initiator.Initiator.copy.Goals as goal

pub returns : goal.returns
returns c = grind (arith, elements)
