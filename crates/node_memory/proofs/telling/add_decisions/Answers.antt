use Rattle.std.proofs.Common.{arith}
use Rattle.std.proofs.lemmas.Grind.{common_steps, elements}
use Rattle.node_memory.proofs.telling.add_decisions.Goals as goal

pub returns : goal.returns
returns c = grind (arith, elements)

pub loop-decision-preserved : goal.loop-decision-preserved
loop-decision-preserved c = grind (arith, common_steps)
