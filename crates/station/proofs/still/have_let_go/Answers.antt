use Rattle.std.proofs.Common.{arith}
use Rattle.std.proofs.lemmas.Grind.{common_steps}
use Rattle.station.proofs.still.have_let_go.Goals as goal

pub returns : goal.returns
returns g c = grind (arith, common_steps)

pub loop-outbox-preserved : goal.loop-outbox-preserved
loop-outbox-preserved g c = grind (arith, common_steps)

pub returns-then-not-has_let_go : goal.returns-then-not-has_let_go
returns-then-not-has_let_go g c = grind (arith, common_steps)
