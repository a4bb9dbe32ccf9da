use Rattle.std.proofs.lemmas.Grind.{common_steps}
use Rattle.std.proofs.Common.{arith}
use Rattle.wire.proofs.queue.put_copies.Goals as goal

pub returns : goal.returns
returns c = grind (arith, common_steps)

pub loop-preserved : goal.loop-preserved
loop-preserved c = grind (arith, common_steps)
