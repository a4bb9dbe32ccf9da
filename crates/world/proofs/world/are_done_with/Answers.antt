use Rattle.std.proofs.Common.{arith}
use Rattle.std.proofs.lemmas.Grind.{common_steps}
use Rattle.world.proofs.world.are_done_with.Goals as goal

pub returns-then-not-is_done_with : goal.returns-then-not-is_done_with
returns-then-not-is_done_with g c = grind (arith, common_steps)

pub loop-station-preserved : goal.loop-station-preserved
loop-station-preserved g c = grind (arith, common_steps)

pub returns : goal.returns
returns g c = grind (arith, common_steps)
