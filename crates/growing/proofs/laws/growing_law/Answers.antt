use Rattle.growing.proofs.Meaning.{approximations_are_monotone, belongs_stays, reaches_stays, solutions_grow}
use Rattle.growing.proofs.Meaning.{streams_stay}
use Rattle.growing.proofs.laws.growing_law.Goals as goal

pub returns-clause-approximations : goal.returns-clause-approximations
returns-clause-approximations c = approximations_are_monotone

pub returns-clause-solutions : goal.returns-clause-solutions
returns-clause-solutions c = solutions_grow

pub returns-clause-streams : goal.returns-clause-streams
returns-clause-streams c = streams_stay

pub returns-clause-belongs : goal.returns-clause-belongs
returns-clause-belongs c = belongs_stays

pub returns-clause-reaches : goal.returns-clause-reaches
returns-clause-reaches c = reaches_stays
