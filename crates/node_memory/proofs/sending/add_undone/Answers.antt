use Rattle.std.proofs.Common.{arith}
use Rattle.std.proofs.lemmas.Grind.{common_steps}
use Rattle.node_memory.proofs.sending.add_undone.Goals as goal

pub returns : goal.returns
returns c = grind (arith, common_steps)

pub loop-outbox-preserved : goal.loop-outbox-preserved
loop-outbox-preserved c = grind (arith, common_steps)
