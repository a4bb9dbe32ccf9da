use Rattle.replay.proofs.Rests.{passing_rests, rest_is_silence, rests_stay, silence_is_rest}
use Rattle.replay.proofs.laws.rest_law.Goals as goal

pub returns-clause-stays : goal.returns-clause-stays
returns-clause-stays c = rests_stay

pub returns-clause-passing : goal.returns-clause-passing
returns-clause-passing c = passing_rests

pub returns-clause-silent : goal.returns-clause-silent
returns-clause-silent c = rest_is_silence

pub returns-clause-rests : goal.returns-clause-rests
returns-clause-rests c = silence_is_rest
