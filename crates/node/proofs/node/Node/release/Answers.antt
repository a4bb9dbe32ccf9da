use Rattle.std.proofs.Common.{arith}
use Rattle.std.proofs.lemmas.Grind.{elements}
use Rattle.node.proofs.node.Node.release.Goals as goal

pub returns-2-clause-handed : goal.returns-2-clause-handed
returns-2-clause-handed g c = grind (arith, elements)

pub returns-clause-handed : goal.returns-clause-handed
returns-clause-handed g c = grind (arith, elements)

pub returns-in-Running-clause-handed : goal.returns-in-Running-clause-handed
returns-in-Running-clause-handed g c = grind (arith, elements)
