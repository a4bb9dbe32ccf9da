use Rattle.std.proofs.Common.{◌-◌, length}
use Rattle.node_memory.proofs.installing.+push_sent.Given as goal

-- the ends that are still to come
abbrev pub decreases-push_sent : goal.decreases-push_sent
decreases-push_sent l = length l.ends.now.items - l.from
