use Rattle.std.proofs.Common.{arith}
use Rattle.std.proofs.lemmas.Grind.{common_steps}
use Rattle.station.proofs.picking.has_more.Goals as goal

pub loop-saved-preserved : goal.loop-saved-preserved
loop-saved-preserved c = grind (arith, common_steps)

pub returns-then-has_risen : goal.returns-then-has_risen
returns-then-has_risen c = grind (arith, common_steps)
