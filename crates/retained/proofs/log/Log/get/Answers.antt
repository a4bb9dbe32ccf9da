use Rattle.std.proofs.lemmas.Grind.{elements}
use Rattle.std.proofs.Common.{arith}
use Rattle.retained.proofs.log.Log.get.Goals as goal

pub returns-clause-history : goal.returns-clause-history
returns-clause-history c = grind (arith, elements)
