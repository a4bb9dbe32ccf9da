use Rattle.std.proofs.Common.{arith}
use Rattle.std.proofs.lemmas.Grind.{elements}
use Rattle.node_memory.proofs.granting.make_job.Goals as goal

pub returns : goal.returns
returns c = grind (arith, elements)

pub invariant_of-result : goal.invariant_of-result
invariant_of-result c = grind (arith, elements)
