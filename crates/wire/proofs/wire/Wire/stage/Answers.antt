use Rattle.std.proofs.lemmas.Grind.{elements}
use Rattle.std.proofs.Common.{arith}
use Rattle.wire.proofs.wire.Wire.stage.Goals as goal

pub returns-clause-ready : goal.returns-clause-ready
returns-clause-ready c = grind (arith, elements)

pub returns-clause-batch : goal.returns-clause-batch
returns-clause-batch c = grind (arith, elements)
