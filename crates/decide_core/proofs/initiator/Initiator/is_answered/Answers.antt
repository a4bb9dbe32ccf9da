use Rattle.std.proofs.lemmas.Grind.{common_steps}
use Rattle.std.proofs.Common.{arith}
use Rattle.decide_core.proofs.initiator.Initiator.is_answered.Goals as goal

pub loop-question-preserved : goal.loop-question-preserved
loop-question-preserved c = grind (arith, common_steps)
