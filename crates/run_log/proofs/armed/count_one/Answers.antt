use Rattle.std.proofs.Common.{arith}
use Rattle.std.proofs.lemmas.Grind.{elements}
use Rattle.run_log.proofs.armed.count_one.Goals as goal

pub returns-then-place-len : goal.returns-then-place-len
returns-then-place-len c = grind (arith, elements)

pub returns-else-place-len : goal.returns-else-place-len
returns-else-place-len c = grind (arith, elements)
