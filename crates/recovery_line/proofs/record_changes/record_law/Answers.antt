use Rattle.recovery_line.proofs.Observing.{taking_moves, deciding_moves, settling_moves, dropping_moves}
use Rattle.recovery_line.proofs.Observing.{confirming_moves, epoch_drops_own, epoch_is_not_seen}
use Rattle.recovery_line.proofs.record_changes.record_law.Goals as goal

pub returns-clause-takes : goal.returns-clause-takes
returns-clause-takes c = taking_moves

pub returns-clause-decides : goal.returns-clause-decides
returns-clause-decides c = deciding_moves

pub returns-clause-settles : goal.returns-clause-settles
returns-clause-settles c = settling_moves

pub returns-clause-drops : goal.returns-clause-drops
returns-clause-drops c = dropping_moves

pub returns-clause-confirms : goal.returns-clause-confirms
returns-clause-confirms c = confirming_moves

pub returns-clause-epoch : goal.returns-clause-epoch
returns-clause-epoch c = epoch_drops_own

pub returns-clause-epoch_alone : goal.returns-clause-epoch_alone
returns-clause-epoch_alone c = epoch_is_not_seen
