use Rattle.std.proofs.Common.{arith}
use Rattle.std.proofs.lemmas.Grind.{elements}
use Rattle.run_log.proofs.appending.left_of.Goals as goal

pub returns : goal.returns
returns c = grind (arith, elements)
