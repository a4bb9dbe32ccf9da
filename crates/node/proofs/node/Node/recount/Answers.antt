use Rattle.std.proofs.Common.{arith}
use Rattle.std.proofs.lemmas.Grind.{elements}
use Rattle.node.proofs.node.Node.recount.Goals as goal

pub returns-clause-view : goal.returns-clause-view
returns-clause-view g c = grind (arith, elements)
