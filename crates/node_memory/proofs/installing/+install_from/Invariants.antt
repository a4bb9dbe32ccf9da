use Rattle.std.proofs.Common.{◌-◌, length}
use Rattle.node_memory.proofs.installing.+install_from.Given as goal

-- the inboxes that are still to come
abbrev pub decreases-install_from : goal.decreases-install_from
decreases-install_from l = length l.inboxes.now.items - l.from
