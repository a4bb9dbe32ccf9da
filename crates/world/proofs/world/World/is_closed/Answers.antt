use Rattle.std.proofs.lemmas.Grind.{elements}
use Rattle.std.proofs.Common.{arith}
use Rattle.world.proofs.world.World.is_closed.Goals as goal

pub returns : goal.returns
returns g c = grind (arith, elements)
