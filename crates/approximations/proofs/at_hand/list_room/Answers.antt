use Rattle.std.proofs.Common.{arith}
use Rattle.std.proofs.lemmas.Grind.{common_steps}
use Rattle.approximations.proofs.at_hand.list_room.Goals as goal

pub returns : goal.returns
returns c = grind (arith, common_steps)

pub loop-channel-preserved : goal.loop-channel-preserved
loop-channel-preserved c = grind (arith, common_steps)
