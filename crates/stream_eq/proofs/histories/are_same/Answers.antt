use Rattle.std.proofs.lemmas.Grind.{common_steps, elements}
use Rattle.std.proofs.Common.{arith}
use Rattle.stream_eq.proofs.histories.are_same.Goals as goal

pub returns : goal.returns
returns c = grind (arith, elements)

pub loop-c-preserved : goal.loop-c-preserved
loop-c-preserved c = grind (arith, common_steps)
