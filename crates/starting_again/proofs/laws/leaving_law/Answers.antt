use Rattle.starting_again.proofs.Leaving.{gives_back_its_own, leaves_its_own, left_are_sound, one_opens, opens_soundly}
use Rattle.starting_again.proofs.laws.leaving_law.Goals as goal

pub returns-clause-leaves : goal.returns-clause-leaves
returns-clause-leaves c = leaves_its_own

pub returns-clause-gives_back : goal.returns-clause-gives_back
returns-clause-gives_back c = gives_back_its_own

pub returns-clause-sound : goal.returns-clause-sound
returns-clause-sound c = left_are_sound

pub returns-clause-opens : goal.returns-clause-opens
returns-clause-opens c = opens_soundly

pub returns-clause-one : goal.returns-clause-one
returns-clause-one c = one_opens
