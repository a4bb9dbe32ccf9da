use Rattle.std.proofs.Common.{arith}
use Rattle.std.proofs.lemmas.Grind.{common_steps}
use Rattle.world.proofs.opening.part_outputs.Goals as goal

pub loop-output-preserved-then-is_output : goal.loop-output-preserved-then-is_output
loop-output-preserved-then-is_output g c = grind (arith, common_steps)

pub returns-clause-others : goal.returns-clause-others
returns-clause-others g c = grind (arith, common_steps)

pub returns-clause-own : goal.returns-clause-own
returns-clause-own g c = grind (arith, common_steps)

pub loop-output-preserved : goal.loop-output-preserved
loop-output-preserved g c = grind (arith, common_steps)
