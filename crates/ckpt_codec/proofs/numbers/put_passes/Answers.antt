use Rattle.std.proofs.Common.{arith}
use Rattle.std.proofs.lemmas.Grind.{common_steps, elements}
use Rattle.ckpt_codec.proofs.numbers.put_passes.Goals as goal

pub returns : goal.returns
returns c = grind (arith, elements)

pub loop-passes-preserved : goal.loop-passes-preserved
loop-passes-preserved c = grind (arith, common_steps)
