use Rattle.replay.proofs.Silences.{silences_stay}
use Rattle.replay.proofs.laws.silence_law.Goals as goal

pub returns : goal.returns
returns c = silences_stay
