use Rattle.rerun.proofs.Meant.{places}
use Rattle.rerun.proofs.laws.place_law.Goals as goal

pub returns : goal.returns
returns c = places
