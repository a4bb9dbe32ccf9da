use Rattle.whole_run.proofs.Joining.{runs_then}
use Rattle.whole_run.proofs.laws.one_run_law.Goals as goal

pub returns : goal.returns
returns c = runs_then
