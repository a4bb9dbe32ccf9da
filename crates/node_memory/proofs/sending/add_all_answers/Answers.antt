use Rattle.std.proofs.Common.{arith}
use Rattle.std.proofs.lemmas.Grind.{common_steps, elements}
use Rattle.node_memory.proofs.sending.add_all_answers.Goals as goal

pub loop-inbox-preserved : goal.loop-inbox-preserved
loop-inbox-preserved c = grind (arith, common_steps)

pub returns : goal.returns
returns c = grind (arith, elements)
