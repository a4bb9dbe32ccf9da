use Rattle.std.proofs.Common.{arith}
use Rattle.std.proofs.lemmas.Grind.{elements}
use Rattle.net_check.proofs.ends.Ports.take.Goals as goal

pub returns : goal.returns
returns c = grind (arith, elements)

pub returns-2 : goal.returns-2
returns-2 c = grind (arith, elements)
