use Rattle.std.proofs.lemmas.Grind.{elements}
use Rattle.std.proofs.Common.{arith}
use Rattle.window_link.proofs.receiving.put.Goals as goal

pub returns-in_default : goal.returns-in_default
returns-in_default c = grind (arith, elements)
