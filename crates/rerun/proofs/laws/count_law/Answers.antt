use Rattle.rerun.proofs.Counts.{counts}
use Rattle.rerun.proofs.laws.count_law.Goals as goal

pub returns : goal.returns
returns c = counts
