use Rattle.kahn_program.proofs.Causes.{failed_at_least}
use Rattle.kahn_program.proofs.Logs.{keeps_as}
use Rattle.std.proofs.lemmas.Grind.{elements}
use Rattle.std.proofs.Common.{arith}
use Rattle.kahn_program.proofs.program.main_with.Goals as goal

pub returns-in-Ok-clause-keeps : goal.returns-in-Ok-clause-keeps
returns-in-Ok-clause-keeps g c = keeps_as _ _ _ _ c.in-Ok.ensures c.main_by_names.ensures.keeps

pub returns-in-Err-clause-failed : goal.returns-in-Err-clause-failed
returns-in-Err-clause-failed g c is = failed_at_least _ _ _ c.tell_at_least.ensures.told

pub returns-in-Err-clause-refused : goal.returns-in-Err-clause-refused
returns-in-Err-clause-refused g c = grind (arith, elements)

pub returns-in-Err-clause-done : goal.returns-in-Err-clause-done
returns-in-Err-clause-done g c = grind (arith, elements)
