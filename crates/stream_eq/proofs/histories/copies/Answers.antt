use Rattle.std.proofs.lemmas.Grind.{common_steps}
use Rattle.std.proofs.Common.{arith}
use Rattle.stream_eq.proofs.histories.copies.Goals as goal

pub loop-history-preserved : goal.loop-history-preserved
loop-history-preserved c = grind (arith, common_steps)
