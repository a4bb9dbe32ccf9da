use Rattle.std.proofs.lemmas.Grind.{elements}
use Rattle.std.proofs.Common.{arith}
use Rattle.retained.proofs.log.Log.trim.Goals as goal

pub invariant_of-self : goal.invariant_of-self
invariant_of-self c = grind (arith, elements)

pub returns-then-position-end-clause-history : goal.returns-then-position-end-clause-history
returns-then-position-end-clause-history c = grind (arith, elements)
