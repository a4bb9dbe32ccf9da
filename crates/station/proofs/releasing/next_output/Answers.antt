use Rattle.std.proofs.Common.{arith}
use Rattle.std.proofs.lemmas.Grind.{common_steps}
use Rattle.station.proofs.releasing.next_output.Goals as goal

pub returns-clause-first : goal.returns-clause-first
returns-clause-first g c = grind (arith, common_steps)

pub returns-then-is_waiting-clause-first : goal.returns-then-is_waiting-clause-first
returns-then-is_waiting-clause-first g c = grind (arith, common_steps)

pub loop-j-preserved : goal.loop-j-preserved
loop-j-preserved g c = grind (arith, common_steps)
