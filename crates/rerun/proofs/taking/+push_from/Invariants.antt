use Rattle.std.proofs.Common.{◌-◌, length}
use Rattle.rerun.proofs.taking.+push_from.Given as goal

-- the logs that are still to come
abbrev pub decreases-push_from : goal.decreases-push_from
decreases-push_from l = length l.logs.now.items - l.from
