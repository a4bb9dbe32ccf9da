use Rattle.std.proofs.Common.{◌≡◌, drop}
use Rattle.record.specs.Ascending.{ascend_from}
use Rattle.record.proofs.image.ascends.Given as goal

abbrev pub invariant-loop-saved : goal.invariant-loop-saved
invariant-loop-saved l = ascend_from 0 l.ends ≡ ascend_from l.least (drop l.saved-index l.ends)
