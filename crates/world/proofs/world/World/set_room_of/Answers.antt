use Rattle.std.proofs.Common.{arith}
use Rattle.std.proofs.lemmas.Grind.{elements}
use Rattle.world.proofs.world.World.set_room_of.Goals as goal

pub returns-clause-set : goal.returns-clause-set
returns-clause-set c = grind (arith, elements)
