use Rattle.protocol_laws.specs.World.AgreeLaws.{steps_agree}
use Rattle.world.proofs.laws.step_law.Goals as goal

pub returns : goal.returns
returns c = steps_agree
