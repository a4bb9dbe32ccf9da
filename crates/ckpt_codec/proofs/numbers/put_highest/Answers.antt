use Rattle.std.proofs.Common.{arith}
use Rattle.std.proofs.lemmas.Grind.{common_steps, elements}
use Rattle.ckpt_codec.proofs.numbers.put_highest.Goals as goal

pub returns : goal.returns
returns c = grind (arith, elements)

pub loop-entry-preserved : goal.loop-entry-preserved
loop-entry-preserved c = grind (arith, common_steps)
