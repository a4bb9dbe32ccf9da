use Rattle.std.proofs.Common.{arith}
use Rattle.std.proofs.lemmas.Grind.{elements}
use Rattle.approximations.proofs.at_hand.make_job.Goals as goal

pub invariant_of-result : goal.invariant_of-result
invariant_of-result c = grind (arith, elements)

pub returns-clause-net : goal.returns-clause-net
returns-clause-net c = grind (arith, elements)
