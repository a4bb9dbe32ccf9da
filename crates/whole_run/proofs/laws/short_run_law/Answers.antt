use Rattle.whole_run.proofs.Example.{short_run_is_there}
use Rattle.whole_run.proofs.laws.short_run_law.Goals as goal

pub returns : goal.returns
returns c = short_run_is_there
