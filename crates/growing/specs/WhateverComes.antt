-- Worlds one after the other, where more comes on the inputs between the events.
use Rattle.std.specs.Prelude.{◌≡◌, Bool, ℕ, ℤ, List, [], ◌∷◌}
use Rattle.kahn_net.specs.Streams.{ArePrefixes}
use Rattle.protocol.specs.Node.Common.{IsPrefix, RecordView}
use Rattle.protocol.specs.World.Common.{AreApproximated, EventView, IsStep, released_of, ReplyView, with_rooms}
use Rattle.protocol.specs.World.Common.{WorldInvariant, WorldView}
use Rattle.protocol.specs.World.Released.{IsStreamOf}
use Rattle.growing.specs.LaterInputs.{AreLaterInputs, with_inputs}
use Rattle.starting_again.specs.StartsAgain.{WorldStartsAgain}

-- What may become of a world next: an event is made, whichever it is and however it comes out; more comes on its
-- inputs; its channels get other rooms; or it ends, and another one starts again from its records and its outlets.
pub data Becomes (old new : WorldView) : Type 0 where
  ByEvent : (fits : List (RecordView → Bool)) (event : EventView) (answer : ReplyView)
      → IsStep fits event old answer new → Becomes old new
  ByInputs : (inputs : List (List ℤ)) → AreLaterInputs old.net old.inputs inputs → new ≡ with_inputs inputs old
      → Becomes old new
  ByRooms : (rooms : List ℕ) → new ≡ with_rooms rooms old → Becomes old new
  ByStart : WorldStartsAgain old new → Becomes old new

-- the world becomes the first of these, and each of them the next one
abbrev pub BecomesAllOf : WorldView → List WorldView → Type 0
BecomesAllOf world [] = Unit {0}
BecomesAllOf world (next ∷ worlds) = Becomes world next × BecomesAllOf next worlds

-- What is true of a world that came of an earlier one.
pub record HasGoneOn (first last : WorldView) : Type 0 where
  -- All that is true of a world, whatever events came before, is true of it.
  pub sound : WorldInvariant last
  -- It has the same network.
  pub same_net : last.net ≡ first.net
  -- The inputs of the earlier one are prefixes of its own.
  pub longer : ArePrefixes first.inputs last.inputs
  -- What has left is right on the inputs that it has now, for all outputs in one approximation.
  pub approximated : AreApproximated last
  -- What has left by a channel is a prefix of the channel's history on these inputs,
  pub streams : (c : ℕ) → IsStreamOf last.net last.inputs c (released_of c last.stations)
  -- and begins with what had left of the earlier one.
  pub kept : (c : ℕ) → IsPrefix (released_of c first.stations) (released_of c last.stations)
