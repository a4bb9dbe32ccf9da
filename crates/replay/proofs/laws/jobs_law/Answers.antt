use Rattle.replay.proofs.Outs.{installs_follow_grants, jobs_are_told}
use Rattle.replay.proofs.laws.jobs_law.Goals as goal

pub returns-clause-told : goal.returns-clause-told
returns-clause-told c = jobs_are_told

pub returns-clause-installs : goal.returns-clause-installs
returns-clause-installs c = installs_follow_grants
