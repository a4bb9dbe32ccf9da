use Rattle.std.proofs.lemmas.Grind.{common_steps, elements}
use Rattle.std.proofs.Common.{arith}
use Rattle.sector_disk.proofs.doubt.Doubt.mark.Goals as goal

pub returns-else-self : goal.returns-else-self
returns-else-self c = grind (arith, common_steps)

pub invariant_of-self-else-self : goal.invariant_of-self-else-self
invariant_of-self-else-self c = grind (arith, elements)

pub invariant_of-self : goal.invariant_of-self
invariant_of-self c = grind (arith, elements)

pub returns-then-self : goal.returns-then-self
returns-then-self c = grind (arith, common_steps)
