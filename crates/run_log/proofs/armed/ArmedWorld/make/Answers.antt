use Rattle.std.proofs.Common.{arith}
use Rattle.std.proofs.lemmas.Grind.{elements}
use Rattle.run_log.proofs.armed.ArmedWorld.make.Goals as goal

pub returns-clause-same : goal.returns-clause-same
returns-clause-same g c = grind (arith, elements)

pub returns-clause-home : goal.returns-clause-home
returns-clause-home g c = grind (arith, elements)
