use Rattle.recovery_line.proofs.Sending.{is_true_when_sent}
use Rattle.recovery_line.proofs.Theorems.{run_stays_true}
use Rattle.recovery_line.proofs.steps.packet_law.Goals as goal

pub returns-clause-sent : goal.returns-clause-sent
returns-clause-sent c = is_true_when_sent

pub returns-clause-later : goal.returns-clause-later
returns-clause-later c = run_stays_true
