use Rattle.rerun.proofs.Turning.{begins}
use Rattle.rerun.proofs.laws.begin_law.Goals as goal

pub returns : goal.returns
returns c = begins
