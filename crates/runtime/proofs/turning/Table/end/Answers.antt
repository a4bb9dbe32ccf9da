use Rattle.std.proofs.Common.{arith}
use Rattle.std.proofs.lemmas.Grind.{elements}
use Rattle.runtime.proofs.turning.Table.end.Goals as goal

pub returns-clause-same : goal.returns-clause-same
returns-clause-same g c = grind (arith, elements)

pub returns-clause-over : goal.returns-clause-over
returns-clause-over g c = grind (arith, elements)
