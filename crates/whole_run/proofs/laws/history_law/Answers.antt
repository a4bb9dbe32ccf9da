use Rattle.whole_run.proofs.Histories.{histories_are_runs, live_steps_are_runs}
use Rattle.whole_run.proofs.laws.history_law.Goals as goal

pub returns-clause-histories : goal.returns-clause-histories
returns-clause-histories c = histories_are_runs

pub returns-clause-live : goal.returns-clause-live
returns-clause-live c = live_steps_are_runs
