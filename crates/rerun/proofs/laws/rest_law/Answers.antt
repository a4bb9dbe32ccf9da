use Rattle.rerun.proofs.Rests.{rests_with_all}
use Rattle.rerun.proofs.laws.rest_law.Goals as goal

pub returns : goal.returns
returns c = rests_with_all
