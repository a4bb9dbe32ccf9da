use Rattle.growing.proofs.GoingOn.{goes_on_whatever_comes}
use Rattle.growing.proofs.laws.going_on_law.Goals as goal

pub returns : goal.returns
returns c = goes_on_whatever_comes
