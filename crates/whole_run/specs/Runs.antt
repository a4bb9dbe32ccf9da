-- What may happen to a world, and the runs that this makes.
use Rattle.std.specs.Prelude.{◌≡◌, Bool, ℕ, ℤ, List, [], ◌∷◌}
use Rattle.growing.specs.LaterInputs.{AreLaterInputs, with_inputs}
use Rattle.protocol.specs.Node.Common.{RecordView}
use Rattle.protocol.specs.World.Common.{EventView, IsStep, OutputView, ReplyView, with_rooms, WorldView}
use Rattle.protocol.specs.World.Growing.{EachBegins}
use Rattle.starting_again.specs.WasLeft.{OpensOver, outputs_left}
use Rattle.whole_run.specs.Beginnings.{Begins}
use Rattle.whole_run.specs.Moments.{MayLie}

-- What may become of a world while its disks are there: an event is made, whichever it is and however it comes out; its
-- channels get other rooms; more comes on its inputs; nothing that its view shows changes, as where a call is refused
-- or an input is closed; or it is stopped at some moment, and a world is opened over what lies there, perhaps on later
-- inputs.
pub data GoesOn (old new : WorldView) : Type 0 where
  ByEvent : (fits : List (RecordView → Bool)) (event : EventView) (answer : ReplyView)
      → IsStep fits event old answer new → GoesOn old new
  ByRooms : (rooms : List ℕ) → new ≡ with_rooms rooms old → GoesOn old new
  ByItems : (inputs : List (List ℤ)) → AreLaterInputs old.net old.inputs inputs → new ≡ with_inputs inputs old
      → GoesOn old new
  ByNothing : new ≡ old → GoesOn old new
  ByStop : (records : List RecordView) (outputs : List OutputView) → MayLie old records outputs
      → AreLaterInputs old.net old.inputs new.inputs → OpensOver old.net new.inputs records outputs new
      → GoesOn old new

-- The run ends at some moment and begins again where only the outlets are left: with the same network, perhaps on later
-- inputs, and with outlets of which each has what had left there by then, and perhaps more.
pub record BeginsAgain (old new : WorldView) : Type 0 where
  pub begins : Begins new
  pub same_net : new.net ≡ old.net
  pub later : AreLaterInputs old.net old.inputs new.inputs
  pub records : List RecordView
  pub outputs : List OutputView
  pub ended : MayLie old records outputs
  pub kept : EachBegins outputs (outputs_left new)

-- what may happen next in a run
pub data Happens (old new : WorldView) : Type 0 where
  WithDisks : GoesOn old new → Happens old new
  WithOutlets : BeginsAgain old new → Happens old new

-- one after the other: the world comes to the first of these in this way, and each of them to the next one
abbrev pub EachNext : (WorldView → WorldView → Type 0) → WorldView → List WorldView → Type 0
EachNext comes world [] = Unit {0}
EachNext comes world (next ∷ worlds) = comes world next × EachNext comes next worlds
