use Rattle.std.proofs.Common.{arith}
use Rattle.std.proofs.lemmas.Grind.{common_steps}
use Rattle.station.proofs.quiet.are_at_rest.Goals as goal

pub returns : goal.returns
returns g c = grind (arith, common_steps)

pub returns-then-not-is_at_rest : goal.returns-then-not-is_at_rest
returns-then-not-is_at_rest g c = grind (arith, common_steps)

pub loop-saved-preserved : goal.loop-saved-preserved
loop-saved-preserved g c = grind (arith, common_steps)
