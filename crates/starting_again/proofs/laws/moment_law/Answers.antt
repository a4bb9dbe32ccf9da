use Rattle.starting_again.proofs.Moments.{leaves_at_each_moment}
use Rattle.starting_again.proofs.laws.moment_law.Goals as goal

pub returns : goal.returns
returns c = leaves_at_each_moment
