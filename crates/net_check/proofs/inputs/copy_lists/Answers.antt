use Rattle.std.proofs.lemmas.Grind.{common_steps, elements}
use Rattle.std.proofs.Common.{arith}
use Rattle.net_check.proofs.inputs.copy_lists.Goals as goal

pub returns : goal.returns
returns c = grind (arith, elements)

pub loop-list-preserved : goal.loop-list-preserved
loop-list-preserved c = grind (arith, common_steps)
