use Rattle.std.proofs.lemmas.Grind.{common_steps}
use Rattle.std.proofs.Common.{arith}
use Rattle.decide_core.proofs.hearing.names.Goals as goal

pub returns-then-has_node : goal.returns-then-has_node
returns-then-has_node c = grind (arith, common_steps)

pub loop-decision-preserved : goal.loop-decision-preserved
loop-decision-preserved c = grind (arith, common_steps)
