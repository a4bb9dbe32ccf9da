use Rattle.rerun.proofs.Moves.{moves}
use Rattle.rerun.proofs.laws.move_law.Goals as goal

pub returns : goal.returns
returns c = moves
