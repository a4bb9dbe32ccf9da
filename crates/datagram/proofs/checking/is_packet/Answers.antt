use Rattle.std.proofs.lemmas.Grind.{elements}
use Rattle.std.proofs.Common.{arith}
use Rattle.datagram.proofs.checking.is_packet.Goals as goal

pub returns-then-packet : goal.returns-then-packet
returns-then-packet c = grind (arith, elements)
