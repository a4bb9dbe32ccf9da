-- What happened in a run, and to which world it leads.
use Rattle.std.specs.Prelude.{◌≡◌, ◌⊎◌, ◌≤◌, ◌<◌, ◌+◌, ℕ, nat_lt, Bool, true, false, List, [], ◌∷◌, ◌++◌, length, Option, Some, None}
use Rattle.std.specs.Prelude.{slice_get}
use Rattle.protocol.specs.Node.Common.{RecordView, JobView}
use Rattle.protocol.specs.World.Common.{choice, DoneView, EventView, ByNode, Install, event_node, ReplyView}
use Rattle.protocol.specs.World.Common.{StationView, WorldView, turns_of}
use Rattle.protocol.specs.World.RoomNeeds.{NeedsRoom}
use Rattle.protocol.specs.World.Stances.{stance_of}
use Rattle.protocol.specs.declared.event.Deed.TheVariants as deed
use Rattle.replay.specs.Armed.{ArmedEvent, OfWorld, ArmedView, IsArmedStep, armed_at_first, armed_widened}
use Rattle.replay.specs.Plain.{run_view}
use Rattle.replay.specs.declared.kept.RunEvent.{RunEvent}
use Rattle.replay.specs.Replies.{KeptReply, kept_reply}
use Rattle.replay.specs.declared.kept.Maker.{Maker}
use Rattle.replay.specs.declared.kept.Maker.TheVariants.{Node, Driver}
use Rattle.replay.specs.declared.kept.ScriptedEvent.{ScriptedEvent}
use Rattle.replay.specs.declared.kept.Silence.{Silence}
use Rattle.replay.specs.declared.kept.Silence.TheVariants.{Nothing, Late, NotYet, NoMore}

-- ---- what is kept

-- an event as it is kept: of a turn that came back its job, on which it is the process's own
pub data KeptEventView : Type 0 where
  Plainly : (event : RunEvent) → KeptEventView
  OfJob : (job : JobView) → KeptEventView

-- the event of which that was kept
abbrev pub IsKeptOf : KeptEventView → ArmedEvent → Type 0
IsKeptOf (Plainly plain) event = event ≡ run_view plain
IsKeptOf (OfJob job) event = (done : DoneView) × (event ≡ OfWorld (Install done)) × (done.job ≡ job)

-- What happened: an event with its maker and its answer; that none was made; or that a channel got more room, since a process
-- needed it. (That is nobody's event: whoever finds it so may say it, and it comes out the same.)
-- How often it was said that no event was made isn't told here, since it makes no difference to the world.
pub data Happening : Type 0 where
  Made : (maker : Maker) → (event : KeptEventView) → (answer : KeptReply) → Happening
  Silent : (reason : Silence) → Happening
  Widened : (channel : ℕ) → Happening

-- ---- whose event may be which

-- the event of a script's line, from its round on
abbrev pub IsScripted : Option ScriptedEvent → ℕ → ArmedEvent → Type 0
IsScripted None round event = ⊥
IsScripted (Some line) round event = (line.round ≤ round) × (event ≡ run_view line.event)

-- a turn comes back to this node
abbrev pub ComesBackTo : ℕ → ArmedEvent → Type 0
ComesBackTo node event =
    (done : DoneView) × (event ≡ OfWorld (Install done)) × (event_node (Install done) ≡ node)

-- a line is of a round before this one
abbrev pub is_before : ℕ → Option ScriptedEvent → Bool
is_before round None = false
is_before round (Some line) = nat_lt line.round round

-- The script's next line is late, so many lines having been passed: it is of a round before this one.
abbrev pub is_line_late : List ScriptedEvent → ℕ → ℕ → Bool
is_line_late script passed round = is_before round (slice_get script passed)

-- A node makes the event that is next for it, unless a line of the script is late, which comes first; or it brings back a turn of its own, at
-- any time, since that was begun before. The driver makes the event of the script's next line, so many lines having been passed.
abbrev pub IsEventOf : List ScriptedEvent → Maker → ℕ → WorldView → ArmedEvent → Type 0
IsEventOf script (Node k) passed world event =
    ((is_line_late script passed world.round ≡ false) × (event ≡ OfWorld (choice world k))) ⊎ ComesBackTo k event
IsEventOf script Driver passed world event = IsScripted (slice_get script passed) world.round event

-- ---- why none was made

abbrev pub idled_at : ℕ → Option StationView → Bool
idled_at round None = false
idled_at round (Some station) = (turns_of round station.turns).idled

-- a node has let its turn pass in this round
abbrev pub has_idled : WorldView → ℕ → Bool
has_idled world node = idled_at world.round (slice_get world.stations node)

-- an event in which a turn passes
abbrev pub IsIdle : EventView → Type 0
IsIdle event = (node : ℕ) × (event ≡ ByNode node deed.Idle)

-- Why no event was made: the node could only let its turn pass, and has done so in this round; or a line of the script is late, and comes
-- before the node's turn; or the next line of the script isn't due; or there is none.
abbrev pub IsSilence : List ScriptedEvent → Silence → ℕ → WorldView → Type 0
IsSilence script (Nothing k) passed world = (has_idled world k ≡ true) × IsIdle (choice world k)
IsSilence script (Late k) passed world = is_line_late script passed world.round ≡ true
IsSilence script NotYet passed world =
    (line : ScriptedEvent) × (slice_get script passed ≡ Some line) × (world.round < line.round)
IsSilence script NoMore passed world = length script ≤ passed

-- ---- what happened is so

-- An event was made: it is one of its maker, and a step of the world. `fits` is, of each node, what its cell has room for.
pub record IsMade (fits : List (RecordView → Bool)) (script : List ScriptedEvent) (maker : Maker) (kept : KeptEventView)
    (said : KeptReply) (passed : ℕ) (old new : ArmedView) : Type 0 where
  pub event : ArmedEvent
  pub answer : ReplyView
  pub own : IsEventOf script maker passed old.world event
  pub is_kept : IsKeptOf kept event
  pub is_said : said ≡ kept_reply answer
  pub step : IsArmedStep fits event old answer new

-- some process needs more room for this channel
abbrev pub IsNeeded : ℕ → WorldView → Type 0
IsNeeded channel world =
    ∥ ((process : ℕ) × NeedsRoom world.net (stance_of world.net world.inputs world.rooms world.stations) process channel) ∥₁

abbrev pub Happens : List (RecordView → Bool) → List ScriptedEvent → Happening → ℕ → ArmedView → ArmedView → Type 0
Happens fits script (Made maker kept said) passed old new = IsMade fits script maker kept said passed old new
Happens fits script (Silent reason) passed old new = IsSilence script reason passed old.world × (new ≡ old)
Happens fits script (Widened channel) passed old new = IsNeeded channel old.world × (new ≡ armed_widened channel old)

-- how many lines of the script are passed then
abbrev pub passed_by : Maker → ℕ → ℕ
passed_by (Node k) passed = passed
passed_by Driver passed = passed + 1

abbrev pub passed_after : Happening → ℕ → ℕ
passed_after (Made maker kept said) passed = passed_by maker passed
passed_after (Silent reason) passed = passed
passed_after (Widened channel) passed = passed

-- What happened, in order, leads from one world, for which no crash is armed, to another, and passes so many lines of the
-- script. (The equations stand beside, and not in the indices, so that a proof may take the family apart.)
pub data IsReplay (fits : List (RecordView → Bool)) (script : List ScriptedEvent) (opening : WorldView)
    : List Happening → ℕ → ArmedView → Type 0 where
  at_first : (armed : ArmedView) → armed ≡ armed_at_first opening → IsReplay fits script opening [] 0 armed
  and_then : (before all : List Happening) (next : Happening) (passed after : ℕ) (old new : ArmedView)
      → IsReplay fits script opening before passed old → Happens fits script next passed old new
      → all ≡ before ++ next ∷ [] → after ≡ passed_after next passed
      → IsReplay fits script opening all after new

-- what happened, in order, leads from one world to another, however many lines of the script were passed and whatever
-- is armed
abbrev pub LeadsTo : List (RecordView → Bool) → List ScriptedEvent → WorldView → List Happening → WorldView → Type 0
LeadsTo fits script opening happened world =
    ∥ ((passed : ℕ) × (armed : ArmedView) × IsReplay fits script opening happened passed armed
    × (armed.world ≡ world)) ∥₁
