use Rattle.std.proofs.Common.{arith}
use Rattle.std.proofs.lemmas.Grind.{elements}
use Rattle.run_log.proofs.appending.once.Goals as goal

pub returns-in-Node : goal.returns-in-Node
returns-in-Node c = grind (arith, elements)

pub returns-in-Node-2 : goal.returns-in-Node-2
returns-in-Node-2 c = grind (arith, elements)
