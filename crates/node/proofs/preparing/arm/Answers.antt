use Rattle.std.proofs.Common.{arith}
use Rattle.std.proofs.lemmas.Grind.{elements}
use Rattle.node.proofs.preparing.arm.Goals as goal

pub returns-clause-armed : goal.returns-clause-armed
returns-clause-armed g c = grind (arith, elements)
