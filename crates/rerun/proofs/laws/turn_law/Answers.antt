use Rattle.rerun.proofs.After.{steps}
use Rattle.rerun.proofs.laws.turn_law.Goals as goal

pub returns : goal.returns
returns c = steps
