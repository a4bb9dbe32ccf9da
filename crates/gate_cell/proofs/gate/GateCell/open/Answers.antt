use Rattle.std.proofs.Common.{arith}
use Rattle.std.proofs.lemmas.Grind.{pieces}
use Rattle.gate_cell.proofs.gate.GateCell.open.Goals as goal

pub invariant_of-result : goal.invariant_of-result
invariant_of-result g c = search (pieces, arith) depth 5 fits 300
