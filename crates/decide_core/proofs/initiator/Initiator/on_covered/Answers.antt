use Rattle.std.proofs.lemmas.Grind.{common_steps, elements}
use Rattle.std.proofs.Common.{arith}
use Rattle.decide_core.proofs.initiator.Initiator.on_covered.Goals as goal

pub invariant_of-self : goal.invariant_of-self
invariant_of-self c = grind (arith, elements)

pub returns-then-awaits : goal.returns-then-awaits
returns-then-awaits c = grind (arith, common_steps)
