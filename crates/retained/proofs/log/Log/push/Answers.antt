use Rattle.std.proofs.lemmas.Grind.{common_steps, elements}
use Rattle.std.proofs.Common.{arith}
use Rattle.retained.proofs.log.Log.push.Goals as goal

pub returns-clause-history : goal.returns-clause-history
returns-clause-history c = grind (arith, common_steps)

pub returns-clause-full : goal.returns-clause-full
returns-clause-full c = grind (arith, elements)
