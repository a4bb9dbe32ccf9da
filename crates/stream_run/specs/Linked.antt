-- How a network at work stands to what lies outside of it.
use Rattle.std.specs.Prelude.{◌≡◌, ◌++◌, ℕ, ℤ, Bool, List, IsTrue, true, false, length, slice_get, Option, Some, None}
use Rattle.protocol.specs.Node.Common.{Channel, Network, history_of, IsPrefix}
use Rattle.protocol.specs.World.Common.{goes_outside, released_of, WorldView}
use Rattle.world.specs.Feeding.{is_input}
use Rattle.outside.specs.Departures.{items_by}
use Rattle.outside.specs.declared.departure.Departure.{Departure}

-- the items of this channel, if there is one, go outside
abbrev pub is_output_by : Option Channel → Bool
is_output_by None = false
is_output_by (Some channel) = goes_outside channel.consumer

-- the channel of this number is an output of the network
abbrev pub is_output : Network → ℕ → Bool
is_output net number = is_output_by (slice_get net.channels number)

-- What was put out by an output is a beginning of what has left there, of so many items as were taken.
pub record IsTakenOf (put : List ℤ) (taken : ℕ) (released : List ℤ) : Type 0 where
  pub part : IsPrefix put released
  pub count : taken ≡ length put

-- What was put out by each output is what was taken there.
abbrev pub IsPutAsTaken : List Departure → (ℕ → ℕ) → WorldView → Type 0
IsPutAsTaken left taken world =
    (output : ℕ) → IsTakenOf (items_by output left) (taken output) (released_of output world.stations)

-- What was put out by each output is a beginning of what has left there.
abbrev pub IsPutInPart : List Departure → WorldView → Type 0
IsPutInPart left world = (output : ℕ) → IsPrefix (items_by output left) (released_of output world.stations)

-- All that has left by this output was put out.
abbrev pub IsPutWhole : List Departure → WorldView → ℕ → Type 0
IsPutWhole left world output = items_by output left ≡ released_of output world.stations

-- Each output has put out all that has left.
abbrev pub AreAllPut : List Departure → WorldView → Type 0
AreAllPut left world = (output : ℕ) → IsTrue (is_output world.net output) → IsPutWhole left world output

-- Of what came by an input since, these items are fed, and these aren't yet.
pub record IsFedBy (had has fed_before fed : List ℤ) : Type 0 where
  pub items : List ℤ
  pub rest : List ℤ
  pub came : has ≡ had ++ items ++ rest
  pub fed_since : fed ≡ fed_before ++ items

-- And all of it is fed.
pub record IsFedAll (had has fed_before fed : List ℤ) : Type 0 where
  pub items : List ℤ
  pub came : has ≡ had ++ items
  pub fed_since : fed ≡ fed_before ++ items

-- Whatever came by any input since is what its channel got since.
abbrev pub AreFedAll : (ℕ → List ℤ) → (ℕ → List ℤ) → WorldView → WorldView → Type 0
AreFedAll had has old new =
    (input : ℕ) → IsFedAll (had input) (has input) (history_of old.inputs input) (history_of new.inputs input)

-- And what its channel got since is a beginning of that.
abbrev pub AreFedInPart : (ℕ → List ℤ) → (ℕ → List ℤ) → WorldView → WorldView → Type 0
AreFedInPart had has old new =
    (input : ℕ) → IsFedBy (had input) (has input) (history_of old.inputs input) (history_of new.inputs input)

-- Nothing came meanwhile, by any input, and none came to its end.
abbrev pub AreTheSame : (had has : ℕ → List ℤ) (had_ended has_ended : ℕ → Bool) → Type 0
AreTheSame had has had_ended has_ended = (input : ℕ) → (has input ≡ had input) × (has_ended input ≡ had_ended input)

-- Each input came to its end.
abbrev pub AreEnded : Network → (ℕ → Bool) → Type 0
AreEnded net has_ended = (input : ℕ) → IsTrue (is_input net input) → has_ended input ≡ true
