use Rattle.std.specs.Prelude.{vec_len}
use Rattle.world.proofs.opening.+open_stations.Given as goal

-- the disks that are still to come
abbrev pub decreases-open_stations : goal.decreases-open_stations
decreases-open_stations g l = vec_len l.disks.now
