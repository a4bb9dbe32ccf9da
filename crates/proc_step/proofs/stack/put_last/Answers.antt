use Rattle.std.proofs.lemmas.Grind.{common_steps}
use Rattle.std.proofs.Common.{arith}
use Rattle.proc_step.proofs.stack.put_last.Goals as goal

pub returns-clause-put : goal.returns-clause-put
returns-clause-put c = grind (arith, common_steps)
