use Rattle.std.proofs.Common.{arith}
use Rattle.std.proofs.lemmas.Grind.{elements}
use Rattle.gate_cell.proofs.access.look.Goals as goal

pub returns-clause-looks : goal.returns-clause-looks
returns-clause-looks g c = grind (arith, elements)
