use Rattle.std.proofs.lemmas.Grind.{common_steps, elements}
use Rattle.std.proofs.Common.{arith}
use Rattle.proc_step.proofs.room.empty_histories.Goals as goal

pub returns : goal.returns
returns c = grind (arith, elements)

pub loop-preserved : goal.loop-preserved
loop-preserved c = grind (arith, common_steps)
