use Rattle.std.proofs.lemmas.Grind.{common_steps, elements}
use Rattle.std.proofs.Common.{arith}
use Rattle.wire.proofs.wire.Wire.put_straight.Goals as goal

pub returns : goal.returns
returns c = grind (arith, common_steps)

pub invariant_of-self : goal.invariant_of-self
invariant_of-self c = grind (arith, elements)
