use Rattle.std.proofs.lemmas.Grind.{common_steps, elements}
use Rattle.std.proofs.Common.{arith}
use Rattle.record.proofs.record.copy_decisions.Goals as goal

pub loop-decision-preserved : goal.loop-decision-preserved
loop-decision-preserved c = grind (arith, common_steps)

pub returns : goal.returns
returns c = grind (arith, elements)
