use Rattle.std.proofs.Common.{arith}
use Rattle.std.proofs.lemmas.Grind.{common_steps, elements}
use Rattle.ckpt_codec.proofs.numbers.put_participants.Goals as goal

pub returns : goal.returns
returns c = grind (arith, elements)

pub loop-node-preserved : goal.loop-node-preserved
loop-node-preserved c = grind (arith, common_steps)
