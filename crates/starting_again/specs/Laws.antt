-- What is true of a world that starts again, and of what worlds leave.
use Rattle.std.specs.Prelude.{◌≡◌, ℕ, ℤ, Bool, List, map}
use Rattle.std.specs.List.Sorted.{IsPermutation}
use Rattle.protocol.specs.Node.Common.{Network, RecordView}
use Rattle.protocol.specs.World.Common.{EventView, IsStep, output_channels, OutputView, records_of, released_of}
use Rattle.protocol.specs.World.Common.{ReplyView, WorldInvariant, WorldView}
use Rattle.protocol.specs.World.Coordination.{AreCoordinated}
use Rattle.starting_again.specs.Moments.{MayLieThere}
use Rattle.starting_again.specs.StartsAgain.{WorldStartsAgain}
use Rattle.starting_again.specs.WasLeft.{AreSoundByThemselves, OpensOver, outputs_by_station, outputs_left, WasLeft}

-- ---- a world that starts again

-- What is true of a world, whatever events came before, is true of one that starts again from it.
abbrev pub KeepsAgain : Type 0
KeepsAgain = (old new : WorldView) → WorldInvariant old → WorldStartsAgain old new → WorldInvariant new

-- Of each world there is one that starts again from it: the definition asks for nothing that can't be.
abbrev pub OneStartsAgain : Type 0
OneStartsAgain = (old : WorldView) → ∥ ((new : WorldView) × WorldStartsAgain old new) ∥₁

-- By each channel the same has left, and the records are the same.
abbrev pub HasTheSame : Type 0
HasTheSame = (old new : WorldView) → WorldStartsAgain old new
    → ((c : ℕ) → released_of c new.stations ≡ released_of c old.stations)
    × (records_of new.stations ≡ records_of old.stations)

-- It comes after the earlier world by steps of the abstract machine, and checkpoints are coordinated over the stop as
-- over an event.
abbrev pub GoesOnAgain : Type 0
GoesOnAgain = (old new : WorldView) → WorldInvariant old → WorldStartsAgain old new → AreCoordinated old new

-- ---- what was left

-- Each world leaves its own records, and its outputs with what has left there.
abbrev pub LeavesItsOwn : Type 0
LeavesItsOwn = (world : WorldView) → WorldInvariant world
    → WasLeft world.net world.inputs (records_of world.stations) (outputs_left world)

-- Those that its stations give back are these, put in order of their channels.
abbrev pub GivesBackItsOwn : Type 0
GivesBackItsOwn = (world : WorldView) (outputs : List OutputView) → WorldInvariant world
    → IsPermutation (outputs_by_station world.stations) outputs
    → map (λ (output : OutputView). output.channel) outputs ≡ output_channels 0 world.net.channels
    → outputs ≡ outputs_left world

-- What was left is sound by itself.
abbrev pub LeftAreSound : Type 0
LeftAreSound = (net : Network) (inputs : List (List ℤ)) (records : List RecordView) (outputs : List OutputView)
    → WasLeft net inputs records outputs → AreSoundByThemselves net inputs records outputs

-- There is a fresh world over it.
abbrev pub OneOpens : Type 0
OneOpens = (net : Network) (inputs : List (List ℤ)) (records : List RecordView) (outputs : List OutputView)
    → WasLeft net inputs records outputs → ∥ ((new : WorldView) × OpensOver net inputs records outputs new) ∥₁

-- Of a fresh world over what was left all is true that is true of a world whatever events came before, and what has
-- left is what had left.
abbrev pub OpensSoundly : Type 0
OpensSoundly = (net : Network) (inputs : List (List ℤ)) (records : List RecordView) (outputs : List OutputView)
    (new : WorldView) → WasLeft net inputs records outputs → OpensOver net inputs records outputs new
    → WorldInvariant new × (outputs_left new ≡ outputs)

-- ---- inside an event

-- At each moment of an event what lies on the disks and in the outlets is such as some world leaves.
abbrev pub LeavesAtEachMoment : Type 0
LeavesAtEachMoment = (fits : List (RecordView → Bool)) (event : EventView) (old : WorldView) (answer : ReplyView)
    (new : WorldView) (records : List RecordView) (outputs : List OutputView) → WorldInvariant old
    → IsStep fits event old answer new → MayLieThere event old new records outputs
    → WasLeft old.net old.inputs records outputs
