-- A world in which nothing is to be done.
use Rattle.std.specs.Prelude.{Bool}
use Rattle.std.specs.List.{list_all}
use Rattle.protocol.specs.World.Common.{WorldView}
use Rattle.protocol.specs.World.Still.{is_still}

-- At no node anything is to be done with the room that channels have: each runs, all of it is settled, and it can grant no job.
-- (`stands_still` says besides that a node could grant one with more room.)
abbrev pub is_still_world : WorldView → Bool
is_still_world world = list_all (is_still world.net world.inputs world.rooms world.stations) world.stations
