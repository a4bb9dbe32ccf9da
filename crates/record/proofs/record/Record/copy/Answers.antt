use Rattle.std.proofs.lemmas.Grind.{elements}
use Rattle.std.proofs.Common.{arith}
use Rattle.record.proofs.record.Record.copy.Goals as goal

pub returns : goal.returns
returns c = grind (arith, elements)
