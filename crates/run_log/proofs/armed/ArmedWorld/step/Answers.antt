use Rattle.std.proofs.Common.{arith}
use Rattle.std.proofs.lemmas.Grind.{elements}
use Rattle.run_log.proofs.armed.ArmedWorld.step.Goals as goal

pub returns-clause-step : goal.returns-clause-step
returns-clause-step g c = grind (arith, elements)

pub returns-clause-home : goal.returns-clause-home
returns-clause-home g c = grind (arith, elements)

pub returns-clause-passed : goal.returns-clause-passed
returns-clause-passed g c = grind (arith, elements)
