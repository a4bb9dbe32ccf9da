use Rattle.std.proofs.Common.{arith}
use Rattle.std.proofs.lemmas.Grind.{common_steps, elements}
use Rattle.world.proofs.closing.add_outputs.Goals as goal

pub loop-output-init : goal.loop-output-init
loop-output-init g c = grind (arith, elements)

pub loop-output-preserved : goal.loop-output-preserved
loop-output-preserved g c = grind (arith, common_steps)

pub returns : goal.returns
returns g c = grind (arith, common_steps)
