use Rattle.std.proofs.Common.{arith}
use Rattle.std.proofs.lemmas.Grind.{common_steps}
use Rattle.world.proofs.still.are_still.Goals as goal

pub returns : goal.returns
returns g c = grind (arith, common_steps)

pub returns-then-not-is_still : goal.returns-then-not-is_still
returns-then-not-is_still g c = grind (arith, common_steps)

pub loop-station-preserved : goal.loop-station-preserved
loop-station-preserved g c = grind (arith, common_steps)
