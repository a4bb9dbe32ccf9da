use Rattle.std.proofs.lemmas.Grind.{elements}
use Rattle.std.proofs.Common.{arith}
use Rattle.window_link.proofs.receiving.advance.Goals as goal

pub returns : goal.returns
returns c = grind (arith, elements)
