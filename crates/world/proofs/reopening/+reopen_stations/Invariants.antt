use Rattle.std.specs.Prelude.{vec_len}
use Rattle.world.proofs.reopening.+reopen_stations.Given as goal

-- the disks that are still to come
abbrev pub decreases-reopen_stations : goal.decreases-reopen_stations
decreases-reopen_stations g l = vec_len l.disks.now
