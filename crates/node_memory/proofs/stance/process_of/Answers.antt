use Rattle.std.proofs.Common.{arith}
use Rattle.std.proofs.lemmas.Grind.{common_steps}
use Rattle.node_memory.proofs.stance.process_of.Goals as goal

pub loop-saved-preserved : goal.loop-saved-preserved
loop-saved-preserved c = grind (arith, common_steps)
