use Rattle.std.proofs.Common.{arith}
use Rattle.std.proofs.lemmas.Grind.{common_steps}
use Rattle.node_memory.proofs.sending.add_items.Goals as goal

pub loop-offset-preserved : goal.loop-offset-preserved
loop-offset-preserved c = grind (arith, common_steps)
