use Rattle.std.proofs.lemmas.Grind.{common_steps, elements}
use Rattle.std.proofs.Common.{arith}
use Rattle.retained.proofs.log.Log.copy_since.Goals as goal

pub index-requires : goal.index-requires
index-requires c = grind (arith, elements)

pub loop-offset-preserved : goal.loop-offset-preserved
loop-offset-preserved c = grind (arith, common_steps)

pub returns : goal.returns
returns c = grind (arith, elements)
