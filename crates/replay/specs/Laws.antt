-- What a history says of the world to which it leads, of the turns that come back, and of what may be said again.
use Rattle.std.specs.Prelude.{◌≡◌, ◌⊎◌, ℕ, Bool, true, false, List, [], ◌∷◌, ◌++◌, Some, slice_get}
use Rattle.protocol.specs.Node.Common.{RecordView, IsOut}
use Rattle.protocol.specs.World.Common.{DoneView, Install, event_node, WorldInvariant, ReplyView, StationView, IsStep}
use Rattle.protocol.specs.World.Common.{WorldView}
use Rattle.protocol.specs.declared.reply.Reply.TheVariants.{Installed, Discarded}
use Rattle.protocol.specs.Node.Sharing.{wider_at}
use Rattle.replay.specs.Armed.{ArmedView}
use Rattle.replay.specs.Replay.{Happening, Made, Silent, Widened, IsReplay, IsSilence, LeadsTo}
use Rattle.replay.specs.declared.kept.ScriptedEvent.{ScriptedEvent}
use Rattle.replay.specs.declared.kept.Silence.{Silence}

-- what is true of a world from its opening on is true of each world to which a history leads
abbrev pub ReplaysKeep : Type 0
ReplaysKeep = (fits : List (RecordView → Bool)) (script : List ScriptedEvent) (opening : WorldView)
    (happened : List Happening) (passed : ℕ) (armed : ArmedView) → WorldInvariant opening
    → IsReplay fits script opening happened passed armed → WorldInvariant armed.world

-- the rooms of channels behind these, where they were so much before
abbrev pub rooms_after : List Happening → List ℕ → List ℕ
rooms_after [] rooms = rooms
rooms_after (Made maker event answer ∷ rest) rooms = rooms_after rest rooms
rooms_after (Silent reason ∷ rest) rooms = rooms_after rest rooms
rooms_after (Widened channel ∷ rest) rooms = rooms_after rest (wider_at channel rooms)

-- the network and its inputs stay, and so do the rooms of channels, but where the history says that they were widened
abbrev pub ReplaysStay : Type 0
ReplaysStay = (fits : List (RecordView → Bool)) (script : List ScriptedEvent) (opening : WorldView)
    (happened : List Happening) (world : WorldView) → LeadsTo fits script opening happened world
    → ∥ (world.net ≡ opening.net) × (world.inputs ≡ opening.inputs)
    × (world.rooms ≡ rooms_after happened opening.rooms) ∥₁

-- a turn is taken in exactly where its job is the one that is out at its node, and is else discarded
abbrev pub InstallsAreTold : Type 0
InstallsAreTold = (fits : List (RecordView → Bool)) (fit : RecordView → Bool) (done : DoneView) (old new : WorldView)
    (answer : ReplyView) (station : StationView) → slice_get fits (event_node (Install done)) ≡ Some fit
    → slice_get old.stations (event_node (Install done)) ≡ Some station → IsStep fits (Install done) old answer new
    → ((answer ≡ Installed) × IsOut done.job station.node.mode)
    ⊎ ((answer ≡ Discarded) × ¬ (IsOut done.job station.node.mode))

-- no event is among these
abbrev pub no_event : List Happening → Bool
no_event [] = true
no_event (Made maker event answer ∷ rest) = false
no_event (Silent reason ∷ rest) = no_event rest
no_event (Widened channel ∷ rest) = false

-- why no event was made, as a history says behind its last event, is still so in the world to which it leads
abbrev pub SilencesStay : Type 0
SilencesStay = (fits : List (RecordView → Bool)) (script : List ScriptedEvent) (opening : WorldView)
    (happened : List Happening) (passed : ℕ) (armed : ArmedView)
    → IsReplay fits script opening happened passed armed
    → (before rest : List Happening) (reason : Silence) → happened ≡ before ++ Silent reason ∷ rest
    → no_event rest ≡ true → IsSilence script reason passed armed.world
