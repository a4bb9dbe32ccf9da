use Rattle.std.proofs.lemmas.Grind.{elements}
use Rattle.std.proofs.Common.{arith}
use Rattle.datagram.proofs.checking.are_each_needs.Goals as goal

pub returns : goal.returns
returns c = grind (arith, elements)
