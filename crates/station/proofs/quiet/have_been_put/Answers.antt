use Rattle.std.proofs.Common.{arith}
use Rattle.std.proofs.lemmas.Grind.{common_steps}
use Rattle.station.proofs.quiet.have_been_put.Goals as goal

pub returns : goal.returns
returns g c = grind (arith, common_steps)

pub loop-saved-preserved : goal.loop-saved-preserved
loop-saved-preserved g c = grind (arith, common_steps)

pub returns-then-not-has_been_put : goal.returns-then-not-has_been_put
returns-then-not-has_been_put g c = grind (arith, common_steps)
