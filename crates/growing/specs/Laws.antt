-- What is true of inputs that grow, and of a world that stands on them.
use Rattle.std.specs.Prelude.{◌≡◌, ◌≢◌, ◌↔◌, ◌+◌, ◌≤◌, ◌<◌, ◌++◌, ℕ, ℤ, List, [], length, IsTrue, Some, slice_get}
use Rattle.kahn_net.specs.Approximations.{IsSolution}
use Rattle.kahn_net.specs.Common.{Belongs}
use Rattle.kahn_net.specs.Streams.{ArePrefixes}
use Rattle.kahn_net.specs.declared.limits.TheConstants.{MAX_COUNT}
use Rattle.protocol.specs.Node.Common.{approximation, Channel, Fits, history_of, HistoryReaches, ImageView, IsJobOf}
use Rattle.protocol.specs.Node.Common.{IsValid, JobView, Network, Outside, Process, RecordView}
use Rattle.protocol.specs.World.Common.{are_quiet, OutputView, StationView, WorldInvariant, WorldView}
use Rattle.protocol.specs.World.Coordination.{AreCoordinated, last_of}
use Rattle.protocol.specs.World.Headline.{AreAllWithin}
use Rattle.protocol.specs.World.Released.{IsStreamOf}
use Rattle.protocol.specs.declared.links.Inbox.{Inbox}
use Rattle.growing.specs.LaterInputs.{AreLaterInputs, fed, NoneWaitsForMore, with_inputs}
use Rattle.growing.specs.WhateverComes.{BecomesAllOf, HasGoneOn}
use Rattle.starting_again.specs.WasLeft.{WasLeft}

-- ---- what a network means

-- Each approximation is channel by channel a prefix of the one of the same number on inputs that are longer: what a
-- network makes is a monotone function of its inputs, since the function of each process is one (Kahn 1974).
abbrev pub ApproximationsAreMonotone : Type 0
ApproximationsAreMonotone =
    (net : Network) (before after : List (List ℤ)) (n : ℕ) → IsValid net → ArePrefixes before after
    → ArePrefixes (approximation net before n) (approximation net after n)

-- Each approximation on the inputs of before is below whatever histories solve the equations on later inputs. So where
-- the approximations come to rest, the least solution only grows.
abbrev pub SolutionsGrow : Type 0
SolutionsGrow = (net : Network) (before after histories : List (List ℤ)) (n : ℕ) → IsValid net
    → AreLaterInputs net before after → IsSolution net after histories
    → ArePrefixes (approximation net before n) histories

-- A stream that is a prefix of its channel's history in an approximation is one on longer inputs.
abbrev pub StreamsStay : Type 0
StreamsStay = (net : Network) (before after : List (List ℤ)) (channel : ℕ) (items : List ℤ) → IsValid net
    → ArePrefixes before after → IsStreamOf net before channel items → IsStreamOf net after channel items

-- An item that belongs to a channel's history at a place belongs to it there on longer inputs.
abbrev pub BelongsStays : Type 0
BelongsStays = (net : Network) (before after : List (List ℤ)) (channel place : ℕ) (item : ℤ) → IsValid net
    → ArePrefixes before after → Belongs net before channel place item → Belongs net after channel place item

-- A history that comes to so many items comes to them on longer inputs.
abbrev pub ReachesStays : Type 0
ReachesStays = (net : Network) (before after : List (List ℤ)) (channel number : ℕ) → IsValid net
    → ArePrefixes before after → HistoryReaches net before channel number → HistoryReaches net after channel number

-- ---- items at the end of an input

-- The input that was fed has these items behind its own,
abbrev pub FedHasItems : Type 0
FedHasItems = (inputs : List (List ℤ)) (input : ℕ) (items : List ℤ) → input < length inputs
    → history_of (fed input items inputs) input ≡ history_of inputs input ++ items

-- and every other one is as it was.
abbrev pub OthersStay : Type 0
OthersStay = (inputs : List (List ℤ)) (input other : ℕ) (items : List ℤ) → other ≢ input
    → history_of (fed input items inputs) other ≡ history_of inputs other

-- Inputs of which one is fed are longer.
abbrev pub FedIsLonger : Type 0
FedIsLonger = (inputs : List (List ℤ)) (input : ℕ) (items : List ℤ) → ArePrefixes inputs (fed input items inputs)

-- Where items come from outside, inputs that fit are fed to later inputs of the network exactly where the greatest count
-- isn't passed.
abbrev pub FedIsLater : Type 0
FedIsLater = (net : Network) (inputs : List (List ℤ)) (input : ℕ) (channel : Channel) (items : List ℤ)
    → Fits net inputs → slice_get net.channels input ≡ Some channel → channel.producer ≡ Outside
    → AreLaterInputs net inputs (fed input items inputs)
    ↔ (length (history_of inputs input) + length items ≤ MAX_COUNT)

-- Where a process puts, they are so exactly where no items are given.
abbrev pub FedWhereMade : Type 0
FedWhereMade = (net : Network) (inputs : List (List ℤ)) (input p : ℕ) (channel : Channel) (items : List ℤ)
    → Fits net inputs → slice_get net.channels input ≡ Some channel → channel.producer ≡ Process p
    → AreLaterInputs net inputs (fed input items inputs) ↔ (items ≡ [])

-- No items change nothing.
abbrev pub FedNothing : Type 0
FedNothing = (inputs : List (List ℤ)) (input : ℕ) → fed input [] inputs ≡ inputs

-- It is all the same whether items come in one go or in two,
abbrev pub FedInParts : Type 0
FedInParts = (inputs : List (List ℤ)) (input : ℕ) (first second : List ℤ)
    → fed input second (fed input first inputs) ≡ fed input (first ++ second) inputs

-- and which of two inputs is fed first.
abbrev pub FedInAnyOrder : Type 0
FedInAnyOrder = (inputs : List (List ℤ)) (one other : ℕ) (items others : List ℤ) → one ≢ other
    → fed one items (fed other others inputs) ≡ fed other others (fed one items inputs)

-- What is later than later inputs is later.
abbrev pub LaterAgain : Type 0
LaterAgain = (net : Network) (first second third : List (List ℤ)) → AreLaterInputs net first second
    → AreLaterInputs net second third → AreLaterInputs net first third

-- ---- a world

-- All that is true of a world, whatever events came before, is true of it on later inputs.
abbrev pub StaysSound : Type 0
StaysSound = (world : WorldView) (inputs : List (List ℤ)) → WorldInvariant world
    → AreLaterInputs world.net world.inputs inputs → WorldInvariant (with_inputs inputs world)

-- Nothing but the inputs is another: neither the network nor any station with what it keeps and what has left there,
-- nor what is in flight, nor the round and the rooms.
abbrev pub ChangesInputsAlone : Type 0
ChangesInputsAlone = (world : WorldView) (inputs : List (List ℤ)) → let new = with_inputs inputs world in
    (new.net ≡ world.net) × (new.inputs ≡ inputs) × (new.stations ≡ world.stations) × (new.traffic ≡ world.traffic)
    × (new.round ≡ world.round) × (new.rooms ≡ world.rooms)

-- The job that is out is one on longer inputs: it has at hand a beginning of what there is now. So what comes of it may
-- be installed.
abbrev pub JobStays : Type 0
JobStays = (net : Network) (before after : List (List ℤ)) (image : ImageView) (inboxes : List Inbox) (job : JobView)
    → ArePrefixes before after → IsJobOf net before image inboxes job → IsJobOf net after image inboxes job

-- What has left by all outputs is within the approximation of the same number on longer inputs.
abbrev pub OutputsStayWithin : Type 0
OutputsStayWithin = (net : Network) (before after : List (List ℤ)) (stations : List StationView) (n : ℕ) → IsValid net
    → ArePrefixes before after → AreAllWithin net before stations n → AreAllWithin net after stations n

-- Checkpoints that are coordinated from one world to another are so whatever the inputs of both are.
abbrev pub StaysCoordinated : Type 0
StaysCoordinated = (old new : WorldView) (before after : List (List ℤ)) → AreCoordinated old new
    → AreCoordinated (with_inputs before old) (with_inputs after new)

-- What some world left on these inputs is what some world leaves on later ones. So one that starts again may find more
-- on its inputs than there was when the earlier one ended.
abbrev pub LeftStays : Type 0
LeftStays = (net : Network) (before after : List (List ℤ)) (records : List RecordView) (outputs : List OutputView)
    → AreLaterInputs net before after → WasLeft net before records outputs → WasLeft net after records outputs

-- ---- a world in which nothing is left to do

-- Nothing is left to do in a world on later inputs exactly where nothing was left to do on those of before, and none of
-- its processes waits for an input that has got more. So a feed may make a world go on, and never brings it to its end.
abbrev pub QuietWhereNoneWaits : Type 0
QuietWhereNoneWaits = (world : WorldView) (inputs : List (List ℤ)) → WorldInvariant world
    → AreLaterInputs world.net world.inputs inputs
    → IsTrue (are_quiet (with_inputs inputs world)) ↔ (IsTrue (are_quiet world) × NoneWaitsForMore world inputs)

-- ---- one world after the other

-- However many events are made, whichever they are, and whatever comes on the inputs between them: of a world that is
-- sound come sound ones, what has left only grows, and it is right on the inputs that there are by then.
abbrev pub GoesOnWhateverComes : Type 0
GoesOnWhateverComes = (world : WorldView) (worlds : List WorldView) → WorldInvariant world → BecomesAllOf world worlds
    → HasGoneOn world (last_of world worlds)
