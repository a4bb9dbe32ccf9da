use Rattle.std.proofs.Common.{arith}
use Rattle.std.proofs.lemmas.Grind.{elements}
use Rattle.node.proofs.node.Node.run_from.Goals as goal

pub returns-in-Ok-opened-clause-view : goal.returns-in-Ok-opened-clause-view
returns-in-Ok-opened-clause-view g c = grind (arith, elements)
