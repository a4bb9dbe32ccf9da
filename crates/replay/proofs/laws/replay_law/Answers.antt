use Rattle.replay.proofs.Replays.{replays_keep, replays_stay}
use Rattle.replay.proofs.laws.replay_law.Goals as goal

pub returns-clause-keeps : goal.returns-clause-keeps
returns-clause-keeps c = replays_keep

pub returns-clause-stays : goal.returns-clause-stays
returns-clause-stays c = replays_stay
