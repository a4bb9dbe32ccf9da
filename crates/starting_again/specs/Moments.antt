-- What lies on the disks and in the outlets at a moment inside an event.
use Rattle.std.specs.Prelude.{◌≡◌, ◌⊎◌, List, map}
use Rattle.protocol.specs.Node.Common.{RecordView}
use Rattle.protocol.specs.World.Common.{AreEither, EventView, OutputView, records_of, setting_of, WorldView}
use Rattle.protocol.specs.World.RecoveryLine.{next_for}
use Rattle.starting_again.specs.WasLeft.{outputs_left}

-- At a moment of an event that leads from one world to another a crash may leave these records, and the outlets have
-- these outputs: of each node the record of before, or the one that the event puts there; and what had left before the
-- event, or what has left by its end.
pub record MayLieThere (event : EventView) (old new : WorldView) (records : List RecordView)
    (outputs : List OutputView) : Type 0 where
  pub of_nodes : AreEither (records_of old.stations) (map (next_for (setting_of old) event) old.stations) records
  pub of_outlets : (outputs ≡ outputs_left old) ⊎ (outputs ≡ outputs_left new)
