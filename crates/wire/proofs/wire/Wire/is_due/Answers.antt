use Rattle.std.proofs.lemmas.Grind.{elements}
use Rattle.std.proofs.Common.{arith}
use Rattle.wire.proofs.wire.Wire.is_due.Goals as goal

pub returns : goal.returns
returns c = grind (arith, elements)
