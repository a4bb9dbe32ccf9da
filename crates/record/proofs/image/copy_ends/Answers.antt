use Rattle.std.proofs.lemmas.Grind.{common_steps, elements}
use Rattle.std.proofs.Common.{arith}
use Rattle.record.proofs.image.copy_ends.Goals as goal

pub returns : goal.returns
returns c = grind (arith, elements)

pub loop-end-preserved : goal.loop-end-preserved
loop-end-preserved c = grind (arith, common_steps)
