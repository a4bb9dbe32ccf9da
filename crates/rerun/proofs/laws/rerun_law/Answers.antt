use Rattle.rerun.proofs.Turning.{goes_on}
use Rattle.rerun.proofs.laws.rerun_law.Goals as goal

pub returns : goal.returns
returns c = goes_on
