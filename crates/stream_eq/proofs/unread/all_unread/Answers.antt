use Rattle.std.proofs.lemmas.Grind.{common_steps, elements}
use Rattle.std.proofs.Common.{arith}
use Rattle.stream_eq.proofs.unread.all_unread.Goals as goal

pub loop-history-preserved : goal.loop-history-preserved
loop-history-preserved c = grind (arith, common_steps)

pub returns : goal.returns
returns c = grind (arith, elements)
