use Rattle.replay.proofs.Endings.{installs_end_nothing, only_releases_leave, rounds_are_next}
use Rattle.replay.proofs.laws.ending_law.Goals as goal

pub returns-clause-installs : goal.returns-clause-installs
returns-clause-installs c = installs_end_nothing

pub returns-clause-rounds : goal.returns-clause-rounds
returns-clause-rounds c = rounds_are_next

pub returns-clause-leaves : goal.returns-clause-leaves
returns-clause-leaves c = only_releases_leave
