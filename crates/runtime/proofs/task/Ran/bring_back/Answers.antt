use Rattle.std.proofs.Common.{arith}
use Rattle.std.proofs.lemmas.Grind.{common_steps}
use Rattle.runtime.proofs.task.Ran.bring_back.Goals as goal

pub returns-clause-brought : goal.returns-clause-brought
returns-clause-brought g c = grind (arith, common_steps)
