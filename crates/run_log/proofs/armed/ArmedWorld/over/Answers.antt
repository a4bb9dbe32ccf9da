use Rattle.std.proofs.Common.{arith}
use Rattle.std.proofs.lemmas.Grind.{elements}
use Rattle.run_log.proofs.armed.ArmedWorld.over.Goals as goal

pub returns-clause-first : goal.returns-clause-first
returns-clause-first g c = grind (arith, elements)
