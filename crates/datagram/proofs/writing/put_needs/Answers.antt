use Rattle.std.proofs.lemmas.Grind.{common_steps}
use Rattle.std.proofs.Common.{arith}
use Rattle.datagram.proofs.writing.put_needs.Goals as goal

pub loop-need-preserved : goal.loop-need-preserved
loop-need-preserved c = grind (arith, common_steps)
