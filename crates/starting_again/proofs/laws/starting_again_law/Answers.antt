use Rattle.starting_again.proofs.Again.{goes_on_again, has_the_same, keeps_again, one_starts_again}
use Rattle.starting_again.proofs.laws.starting_again_law.Goals as goal

pub returns-clause-keeps : goal.returns-clause-keeps
returns-clause-keeps c = keeps_again

pub returns-clause-same : goal.returns-clause-same
returns-clause-same c = has_the_same

pub returns-clause-goes_on : goal.returns-clause-goes_on
returns-clause-goes_on c = goes_on_again

pub returns-clause-one : goal.returns-clause-one
returns-clause-one c = one_starts_again
