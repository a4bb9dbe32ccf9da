use Rattle.std.proofs.lemmas.Grind.{common_steps, elements}
use Rattle.std.proofs.Common.{arith}
use Rattle.stream_eq.proofs.solution.lengths.Goals as goal

pub returns : goal.returns
returns c = grind (arith, elements)

pub loop-history-preserved : goal.loop-history-preserved
loop-history-preserved c = grind (arith, common_steps)
