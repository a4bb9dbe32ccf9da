use Rattle.std.proofs.Common.{arith}
use Rattle.std.proofs.lemmas.Grind.{elements}
use Rattle.ckpt_codec.proofs.ends.wanted_channel.Goals as goal

pub returns-in-Some-get-clause-wanted : goal.returns-in-Some-get-clause-wanted
returns-in-Some-get-clause-wanted c = grind (arith, elements)

pub returns-in-Some-get-clause-rises : goal.returns-in-Some-get-clause-rises
returns-in-Some-get-clause-rises c = grind (arith, elements)
