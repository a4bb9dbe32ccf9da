use Rattle.std.proofs.lemmas.Grind.{common_steps, elements}
use Rattle.std.proofs.Common.{arith}
use Rattle.record.proofs.image.copy_processes.Goals as goal

pub returns : goal.returns
returns c = grind (arith, elements)

pub loop-process-preserved : goal.loop-process-preserved
loop-process-preserved c = grind (arith, common_steps)
