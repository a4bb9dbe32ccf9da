use Rattle.std.proofs.Common.{arith}
use Rattle.std.proofs.lemmas.Grind.{elements}
use Rattle.node_memory.proofs.sharing.count_logs.Goals as goal

pub returns : goal.returns
returns c = grind (arith, elements)
