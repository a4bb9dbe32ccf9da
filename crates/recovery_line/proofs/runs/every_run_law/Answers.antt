use Rattle.recovery_line.proofs.Theorems.{line_is_sound, line_covers, line_never_falls_back, commits_while_held}
use Rattle.recovery_line.proofs.Theorems.{stays_committed, holders_are_named, ended_is_over, stays_over, over_stays_out}
use Rattle.recovery_line.proofs.Theorems.{takers_are_needed, no_smaller_set, no_smaller_decision, asks_for_needs}
use Rattle.recovery_line.proofs.Theorems.{asks_as_received, decides_for_the_needed, takes_where_needed}
use Rattle.recovery_line.proofs.runs.every_run_law.Goals as goal

pub returns-clause-line_is_sound : goal.returns-clause-line_is_sound
returns-clause-line_is_sound c = line_is_sound

pub returns-clause-line_covers : goal.returns-clause-line_covers
returns-clause-line_covers c = line_covers

pub returns-clause-line_never_falls_back : goal.returns-clause-line_never_falls_back
returns-clause-line_never_falls_back c = line_never_falls_back

pub returns-clause-commits_while_held : goal.returns-clause-commits_while_held
returns-clause-commits_while_held c = commits_while_held

pub returns-clause-stays_committed : goal.returns-clause-stays_committed
returns-clause-stays_committed c = stays_committed

pub returns-clause-holders_are_named : goal.returns-clause-holders_are_named
returns-clause-holders_are_named c = holders_are_named

pub returns-clause-ended_is_over : goal.returns-clause-ended_is_over
returns-clause-ended_is_over c = ended_is_over

pub returns-clause-stays_over : goal.returns-clause-stays_over
returns-clause-stays_over c = stays_over

pub returns-clause-over_stays_out : goal.returns-clause-over_stays_out
returns-clause-over_stays_out c = over_stays_out

pub returns-clause-takers_are_needed : goal.returns-clause-takers_are_needed
returns-clause-takers_are_needed c = takers_are_needed

pub returns-clause-no_smaller_set : goal.returns-clause-no_smaller_set
returns-clause-no_smaller_set c = no_smaller_set

pub returns-clause-no_smaller_decision : goal.returns-clause-no_smaller_decision
returns-clause-no_smaller_decision c = no_smaller_decision

pub returns-clause-decides_for_the_needed : goal.returns-clause-decides_for_the_needed
returns-clause-decides_for_the_needed c = decides_for_the_needed

pub returns-clause-asks_as_received : goal.returns-clause-asks_as_received
returns-clause-asks_as_received c = asks_as_received

pub returns-clause-asks_for_needs : goal.returns-clause-asks_for_needs
returns-clause-asks_for_needs c = asks_for_needs

pub returns-clause-takes_where_needed : goal.returns-clause-takes_where_needed
returns-clause-takes_where_needed c = takes_where_needed
