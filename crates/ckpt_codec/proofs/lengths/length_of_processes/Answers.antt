use Rattle.std.proofs.Common.{arith}
use Rattle.std.proofs.lemmas.Grind.{common_steps}
use Rattle.ckpt_codec.proofs.lengths.length_of_processes.Goals as goal

pub loop-process-preserved : goal.loop-process-preserved
loop-process-preserved c = grind (arith, common_steps)
