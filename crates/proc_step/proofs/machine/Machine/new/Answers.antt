use Rattle.std.proofs.lemmas.Grind.{elements}
use Rattle.std.proofs.Common.{arith}
use Rattle.proc_step.proofs.machine.Machine.new.Goals as goal

pub returns-clause-place : goal.returns-clause-place
returns-clause-place c = grind (arith, elements)

pub returns-clause-empty : goal.returns-clause-empty
returns-clause-empty c = grind (arith, elements)
