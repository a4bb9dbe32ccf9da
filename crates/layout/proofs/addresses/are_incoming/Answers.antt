use Rattle.std.proofs.Common.{arith}
use Rattle.std.proofs.lemmas.Grind.{common_steps}
use Rattle.layout.proofs.addresses.are_incoming.Goals as goal

pub returns-then-not-is_incoming : goal.returns-then-not-is_incoming
returns-then-not-is_incoming c = grind (arith, common_steps)

pub loop-need-preserved : goal.loop-need-preserved
loop-need-preserved c = grind (arith, common_steps)
