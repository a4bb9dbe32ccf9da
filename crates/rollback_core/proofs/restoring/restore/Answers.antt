use Rattle.std.proofs.lemmas.Grind.{elements}
use Rattle.std.proofs.Common.{arith}
use Rattle.rollback_core.proofs.restoring.restore.Goals as goal

pub returns : goal.returns
returns c = grind (arith, elements)
