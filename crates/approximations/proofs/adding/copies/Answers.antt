use Rattle.std.proofs.Common.{arith}
use Rattle.std.proofs.lemmas.Grind.{common_steps}
use Rattle.approximations.proofs.adding.copies.Goals as goal

pub loop-history-preserved : goal.loop-history-preserved
loop-history-preserved c = grind (arith, common_steps)
