use Rattle.std.proofs.lemmas.Grind.{common_steps, elements}
use Rattle.std.proofs.Common.{arith}
use Rattle.wire.proofs.staging.unsent_queues.Goals as goal

pub returns : goal.returns
returns c = grind (arith, elements)

pub loop-queue-preserved : goal.loop-queue-preserved
loop-queue-preserved c = grind (arith, common_steps)
