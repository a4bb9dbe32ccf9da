use Rattle.std.proofs.lemmas.Grind.{elements}
use Rattle.std.proofs.Common.{arith}
use Rattle.kahn_net.proofs.same.is_same_process.Goals as goal

pub returns-then-is_same_statements : goal.returns-then-is_same_statements
returns-then-is_same_statements c = grind (arith, elements)

pub returns-else-is_same_statements : goal.returns-else-is_same_statements
returns-else-is_same_statements c = grind (arith, elements)
