use Rattle.std.proofs.lemmas.Grind.{elements}
use Rattle.std.proofs.Common.{arith}
use Rattle.kahn_program.proofs.progress.line_of.Goals as goal

pub overflow_add-len : goal.overflow_add-len
overflow_add-len c = grind (arith, elements)
