use Rattle.recovery_line.proofs.Starting.{may_begin, starts}
use Rattle.recovery_line.proofs.Stepping.{step_consistent}
use Rattle.recovery_line.proofs.Theorems.{is_consistent, runs_on}
use Rattle.recovery_line.proofs.steps.consistency_law.Goals as goal

pub returns-clause-opening : goal.returns-clause-opening
returns-clause-opening c = may_begin

pub returns-clause-starts : goal.returns-clause-starts
returns-clause-starts c = starts

pub returns-clause-step : goal.returns-clause-step
returns-clause-step c = step_consistent

pub returns-clause-run : goal.returns-clause-run
returns-clause-run c = runs_on

pub returns-clause-reachable : goal.returns-clause-reachable
returns-clause-reachable c = is_consistent
