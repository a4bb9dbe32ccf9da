use Rattle.protocol_laws.specs.World.CoordinationLaws.{asks_were_received}
use Rattle.world.proofs.laws.need_law.Goals as goal

pub returns : goal.returns
returns c = asks_were_received
