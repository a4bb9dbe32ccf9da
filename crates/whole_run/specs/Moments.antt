-- What lies on the disks and in the outlets at a moment of a run.
use Rattle.std.specs.Prelude.{◌≡◌, ◌⊎◌, Bool, List}
use Rattle.protocol.specs.Node.Common.{RecordView}
use Rattle.protocol.specs.World.Common.{AreInLine, EventView, IsStep, OutputView, records_of, ReplyView, WorldView}
use Rattle.starting_again.specs.Moments.{MayLieThere}
use Rattle.starting_again.specs.WasLeft.{outputs_left}

-- These records may lie there, by node, and these outputs, by channel: between two events those that the world keeps,
-- and inside the next event of each node the record of before or the one that the event puts.
pub data MayLie (world : WorldView) (records : List RecordView) (outputs : List OutputView) : Type 0 where
  Between : records ≡ records_of world.stations → outputs ≡ outputs_left world → MayLie world records outputs
  Inside : (fits : List (RecordView → Bool)) (event : EventView) (answer : ReplyView) (next : WorldView)
      → IsStep fits event world answer next → MayLieThere event world next records outputs
      → MayLie world records outputs

-- These may be found there after a crash of all nodes: those that may lie there; and inside the next event whatever
-- records the event's promise of the recovery line is about (the clause `line` of `World::apply`), with what had left
-- before the event or what has left by its end.
pub data MayBeFound (world : WorldView) (records : List RecordView) (outputs : List OutputView) : Type 0 where
  AsItLies : MayLie world records outputs → MayBeFound world records outputs
  AsPromised : (fits : List (RecordView → Bool)) (event : EventView) (answer : ReplyView) (next : WorldView)
      → IsStep fits event world answer next → AreInLine world.net world.stations next.stations records
      → (outputs ≡ outputs_left world) ⊎ (outputs ≡ outputs_left next) → MayBeFound world records outputs
