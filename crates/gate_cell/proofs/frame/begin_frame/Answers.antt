use Rattle.std.proofs.Common.{arith}
use Rattle.std.proofs.lemmas.Grind.{elements}
use Rattle.gate_cell.proofs.frame.begin_frame.Goals as goal

pub returns : goal.returns
returns c = grind (arith, elements)
