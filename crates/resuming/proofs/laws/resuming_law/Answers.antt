use Rattle.resuming.proofs.Left.{is_left_there}
use Rattle.resuming.proofs.laws.resuming_law.Goals as goal

pub returns : goal.returns
returns c = is_left_there
