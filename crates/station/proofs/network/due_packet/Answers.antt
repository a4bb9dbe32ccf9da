use Rattle.std.proofs.Common.{arith}
use Rattle.std.proofs.lemmas.Grind.{elements}
use Rattle.station.proofs.network.due_packet.Goals as goal

pub returns-then-is_due-clause-below : goal.returns-then-is_due-clause-below
returns-then-is_due-clause-below c = grind (arith, elements)
