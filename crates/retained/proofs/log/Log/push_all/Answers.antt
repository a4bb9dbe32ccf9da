use Rattle.std.proofs.lemmas.Grind.{common_steps, elements}
use Rattle.std.proofs.Common.{arith}
use Rattle.retained.proofs.log.Log.push_all.Goals as goal

pub returns-clause-history : goal.returns-clause-history
returns-clause-history c = grind (arith, common_steps)

pub invariant_of-self-2 : goal.invariant_of-self-2
invariant_of-self-2 c = grind (arith, elements)
