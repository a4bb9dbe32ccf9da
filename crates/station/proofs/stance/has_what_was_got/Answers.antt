use Rattle.std.proofs.Common.{arith}
use Rattle.std.proofs.lemmas.Grind.{common_steps}
use Rattle.station.proofs.stance.has_what_was_got.Goals as goal

pub loop-outbox-preserved : goal.loop-outbox-preserved
loop-outbox-preserved g c = grind (arith, common_steps)

pub returns-then-from-channel : goal.returns-then-from-channel
returns-then-from-channel g c = grind (arith, common_steps)

pub returns : goal.returns
returns g c = grind (arith, common_steps)
