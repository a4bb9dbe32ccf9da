use Rattle.std.proofs.Common.{arith}
use Rattle.std.proofs.lemmas.Grind.{common_steps}
use Rattle.station.proofs.still.have_come.Goals as goal

pub loop-inbox-preserved : goal.loop-inbox-preserved
loop-inbox-preserved g c = grind (arith, common_steps)

pub returns-then-not-has_come_from : goal.returns-then-not-has_come_from
returns-then-not-has_come_from g c = grind (arith, common_steps)

pub returns : goal.returns
returns g c = grind (arith, common_steps)
