use Rattle.std.proofs.Common.{arith}
use Rattle.std.proofs.lemmas.Grind.{elements}
use Rattle.node.proofs.opening.opening_record.Goals as goal

pub returns : goal.returns
returns c = grind (arith, elements)
