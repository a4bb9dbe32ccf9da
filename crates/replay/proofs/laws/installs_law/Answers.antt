use Rattle.replay.proofs.Turns.{installs_are_told}
use Rattle.replay.proofs.laws.installs_law.Goals as goal

pub returns : goal.returns
returns c = installs_are_told
