-- What an event leaves of that by which a run ends.
use Rattle.std.specs.Prelude.{◌≡◌, ◌≤◌, ◌+◌, ℕ, Bool, true, false, List}
use Rattle.protocol.specs.Node.Common.{RecordView}
use Rattle.protocol.specs.World.Common.{DoneView, Install, ReplyView, are_quiet, released_of}
use Rattle.protocol.specs.declared.reply.Reply.TheVariants as reply
use Rattle.replay.specs.Armed.{ArmedEvent, ArmedView, IsArmedStep, OfWorld}

-- A turn that comes back leaves the round as it is, and all that has left; and where nothing is left to do, nothing is left to do behind it.
abbrev pub InstallsEndNothing : Type 0
InstallsEndNothing = (fits : List (RecordView → Bool)) (done : DoneView) (old new : ArmedView) (answer : ReplyView)
    → IsArmedStep fits (OfWorld (Install done)) old answer new
    → (new.world.round ≡ old.world.round)
    × ((channel : ℕ) → released_of channel new.world.stations ≡ released_of channel old.world.stations)
    × (are_quiet old.world ≡ true → are_quiet new.world ≡ true)

-- Behind an event it is the same round, or the next one.
abbrev pub RoundsAreNext : Type 0
RoundsAreNext = (fits : List (RecordView → Bool)) (event : ArmedEvent) (old new : ArmedView) (answer : ReplyView)
    → IsArmedStep fits event old answer new → new.world.round ≤ old.world.round + 1

-- an answer by which an item may have left: an outlet took one, or it failed and perhaps took it all the same
abbrev pub may_have_left : ReplyView → Bool
may_have_left (reply.Released left) = true
may_have_left reply.OutletFailed = true
may_have_left answer = false

-- Behind any other answer the same has left by each output as before.
abbrev pub OnlyReleasesLeave : Type 0
OnlyReleasesLeave = (fits : List (RecordView → Bool)) (event : ArmedEvent) (old new : ArmedView) (answer : ReplyView)
    → IsArmedStep fits event old answer new → may_have_left answer ≡ false
    → (channel : ℕ) → released_of channel new.world.stations ≡ released_of channel old.world.stations
