use Rattle.std.proofs.Common.{arith}
use Rattle.std.proofs.lemmas.Grind.{common_steps, elements}
use Rattle.node_memory.proofs.sending.add_all_outgoing.Goals as goal

pub loop-outbox-preserved : goal.loop-outbox-preserved
loop-outbox-preserved c = grind (arith, common_steps)

pub returns : goal.returns
returns c = grind (arith, elements)
