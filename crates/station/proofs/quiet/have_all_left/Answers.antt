use Rattle.std.proofs.Common.{arith}
use Rattle.std.proofs.lemmas.Grind.{common_steps}
use Rattle.station.proofs.quiet.have_all_left.Goals as goal

pub returns : goal.returns
returns g c = grind (arith, common_steps)

pub returns-then-len-sent : goal.returns-then-len-sent
returns-then-len-sent g c = grind (arith, common_steps)

pub loop-output-preserved : goal.loop-output-preserved
loop-output-preserved g c = grind (arith, common_steps)
