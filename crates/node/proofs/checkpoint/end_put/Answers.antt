use Rattle.std.proofs.Common.{arith}
use Rattle.std.proofs.lemmas.Grind.{elements}
use Rattle.node.proofs.checkpoint.end_put.Goals as goal

pub returns-then-not-has_failed-clause-failed : goal.returns-then-not-has_failed-clause-failed
returns-then-not-has_failed-clause-failed g c = grind (arith, elements)
