use Rattle.std.proofs.lemmas.Grind.{elements}
use Rattle.std.proofs.Common.{arith}
use Rattle.proc_step.proofs.job.Job.code.Goals as goal

pub returns : goal.returns
returns c = grind (arith, elements)
