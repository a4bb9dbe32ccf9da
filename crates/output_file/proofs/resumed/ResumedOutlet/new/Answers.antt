use Rattle.std.proofs.Common.{arith}
use Rattle.std.proofs.lemmas.Grind.{common_steps, elements}
use Rattle.output_file.proofs.resumed.ResumedOutlet.new.Goals as goal

pub invariant_of-result : goal.invariant_of-result
invariant_of-result g c = grind (arith, common_steps)

pub returns-clause-none_failed : goal.returns-clause-none_failed
returns-clause-none_failed g c = grind (arith, elements)
