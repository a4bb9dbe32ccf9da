use Rattle.std.proofs.Common.{arith}
use Rattle.std.proofs.lemmas.Grind.{elements}
use Rattle.world.proofs.needs.need_of.Goals as goal

pub returns-else-has_process : goal.returns-else-has_process
returns-else-has_process g c = grind (arith, elements)
