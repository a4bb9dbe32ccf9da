use Rattle.growing.proofs.Feeding.{changes_inputs_alone, job_stays, left_stays, outputs_stay_within, stays_coordinated}
use Rattle.growing.proofs.Feeding.{stays_sound}
use Rattle.growing.proofs.laws.feeding_law.Goals as goal

pub returns-clause-sound : goal.returns-clause-sound
returns-clause-sound c = stays_sound

pub returns-clause-same : goal.returns-clause-same
returns-clause-same c = changes_inputs_alone

pub returns-clause-job : goal.returns-clause-job
returns-clause-job c = job_stays

pub returns-clause-within : goal.returns-clause-within
returns-clause-within c = outputs_stay_within

pub returns-clause-coordinated : goal.returns-clause-coordinated
returns-clause-coordinated c = stays_coordinated

pub returns-clause-left : goal.returns-clause-left
returns-clause-left c = left_stays
