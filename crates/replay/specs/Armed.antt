-- A world with crashes that are armed for the ends of deliveries, and what an event makes of it: the delivery and the crash
-- are two steps of the world, with nothing between them.
use Rattle.std.specs.Prelude.{◌≡◌, ◌==◌, ◌&&◌, ◌++◌, ℕ, Bool, true, false, if◌then◌else◌, List, [], ◌∷◌, length, replicate}
use Rattle.std.specs.Prelude.{Option, Some, None, slice_get, slice_set}
use Rattle.protocol.specs.Node.Common.{RecordView, next_number}
use Rattle.protocol.specs.World.Common.{EventView, ByNode, has_happened, ReplyView, IsStep, WorldView}
use Rattle.protocol.specs.declared.event.Deed.TheVariants as event
use Rattle.protocol.specs.declared.reply.Reply.TheVariants as reply
use Rattle.protocol.specs.World.RoomNeeds.{widened_at}
use Rattle.replay.specs.declared.kept.ArmedCrash.{ArmedCrash}

-- an event of a world, or that a crash is armed
pub data ArmedEvent : Type 0 where
  OfWorld : (event : EventView) → ArmedEvent
  ArmCrash : (crash : ArmedCrash) → ArmedEvent

-- a world, how many deliveries each of its nodes has had, and the crashes that are armed, in their order
pub record ArmedView : Type 0 where
  pub world : WorldView
  pub deliveries : List ℕ
  pub crashes : List ArmedCrash

abbrev pub armed_at_first : WorldView → ArmedView
armed_at_first world =
    record { world = world; deliveries = replicate (length world.stations) 0; crashes = [] }

-- the same with another world
abbrev pub with_world : WorldView → ArmedView → ArmedView
with_world world armed = record { world = world; deliveries = armed.deliveries; crashes = armed.crashes }

-- and where this channel has more room
abbrev pub armed_widened : ℕ → ArmedView → ArmedView
armed_widened channel armed = with_world (widened_at channel armed.world) armed

-- ---- deliveries and their number

-- the node to which a packet comes
abbrev pub delivered_to : EventView → Option ℕ
delivered_to (ByNode k (event.Deliver place)) = Some k
delivered_to other = None

abbrev pub one_more_at : List ℕ → ℕ → Option ℕ → List ℕ
one_more_at deliveries k None = deliveries
one_more_at deliveries k (Some count) = slice_set deliveries k (next_number count)

-- node k has had one more
abbrev pub one_more : List ℕ → ℕ → List ℕ
one_more deliveries k = one_more_at deliveries k (slice_get deliveries k)

-- the numbers behind an event at which a packet came to this node, if to any, and that was answered so
abbrev pub deliveries_after : Option ℕ → ReplyView → List ℕ → List ℕ
deliveries_after None answer deliveries = deliveries
deliveries_after (Some k) answer deliveries =
    if has_happened answer then one_more deliveries k else deliveries

-- ---- the crash at the end of one

-- what a crash may follow: the node took the packet in, or dropped it, and its device didn't fail
abbrev pub has_come : ReplyView → Bool
has_come reply.Delivered = true
has_come reply.Dropped = true
has_come answer = false

abbrev pub is_for : ℕ → ℕ → ArmedCrash → Bool
is_for k count crash = crash.node == k && crash.delivery == count

-- the first that is armed for this delivery of node k
abbrev pub first_crash : ℕ → ℕ → List ArmedCrash → Option ArmedCrash
first_crash k count [] = None
first_crash k count (crash ∷ crashes) = if is_for k count crash then Some crash else first_crash k count crashes

abbrev pub crash_at : ℕ → Option ℕ → List ArmedCrash → Option ArmedCrash
crash_at k None crashes = None
crash_at k (Some count) crashes = first_crash k count crashes

-- the crash that follows a packet's coming to this node, if one came, where that was answered so and the deliveries are
-- counted
abbrev pub crash_after : Option ℕ → ReplyView → List ℕ → List ArmedCrash → Option ArmedCrash
crash_after None answer deliveries crashes = None
crash_after (Some k) answer deliveries crashes =
    if has_come answer then crash_at k (slice_get deliveries k) crashes else None

-- the event ends with this crash, if with any; what had been answered is answered where it ends with none
abbrev pub EndsWith : List (RecordView → Bool) → Option ArmedCrash → ReplyView → WorldView → ReplyView → WorldView
    → Type 0
EndsWith fits None said between answer new = (answer ≡ said) × (new ≡ between)
EndsWith fits (Some crash) said between answer new =
    IsStep fits (ByNode crash.node (event.Crash crash.fill crash.rounds)) between answer new

-- ---- one event

pub record IsWorldStep (fits : List (RecordView → Bool)) (event : EventView) (old : ArmedView) (answer : ReplyView)
    (new : ArmedView) : Type 0 where
  pub said : ReplyView
  pub between : WorldView
  pub step : IsStep fits event old.world said between
  pub deliveries : new.deliveries ≡ deliveries_after (delivered_to event) said old.deliveries
  pub crashes : new.crashes ≡ old.crashes
  pub ends : EndsWith fits (crash_after (delivered_to event) said new.deliveries old.crashes) said between answer
      new.world

abbrev pub with_crash : ArmedCrash → ArmedView → ArmedView
with_crash crash armed =
    record { world = armed.world; deliveries = armed.deliveries; crashes = armed.crashes ++ crash ∷ [] }

-- a step of a world for which crashes are armed: an event, and behind a delivery for whose end a crash is armed, and
-- in which no device failed, that crash; or one more crash is armed
abbrev pub IsArmedStep : List (RecordView → Bool) → ArmedEvent → ArmedView → ReplyView → ArmedView → Type 0
IsArmedStep fits (OfWorld event) old answer new = IsWorldStep fits event old answer new
IsArmedStep fits (ArmCrash crash) old answer new = (answer ≡ reply.Acted) × (new ≡ with_crash crash old)
