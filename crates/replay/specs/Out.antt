-- Which job is out at a node, as a history tells it: the one that an entry granted, that none has installed since, and that no crash
-- of the node has undone, nor that it went back.
use Rattle.std.specs.Prelude.{◌≡◌, ◌⊎◌, ℕ, Bool, true, false, List, [], ◌∷◌, ◌++◌, Option, Some, None, slice_get}
use Rattle.protocol.specs.Node.Common.{RecordView, JobView, is_running, NodeView, ModeView, Down, InDoubt, Runs}
use Rattle.protocol.specs.World.Common.{DoneView, ByNode, Install, event_node, node_in, ReplyView, StationView}
use Rattle.protocol.specs.World.Common.{WorldView}
use Rattle.protocol.specs.declared.event.Deed.TheVariants.{Grant}
use Rattle.protocol.specs.declared.reply.Reply.TheVariants as reply
use Rattle.replay.specs.Armed.{ArmedView, IsArmedStep, OfWorld}
use Rattle.replay.specs.Replay.{Happening, Made, Silent, Widened, Happens, IsMade, IsReplay, KeptEventView, OfJob, Plainly}
use Rattle.replay.specs.Replay.{passed_after, passed_by}
use Rattle.replay.specs.Replies.{KeptReply}
use Rattle.replay.specs.declared.kept.Maker.{Maker}
use Rattle.replay.specs.declared.kept.ScriptedEvent.{ScriptedEvent}

-- ---- what is looked at

-- the job that is out, if one is
abbrev pub out_in : ModeView → Option JobView
out_in Down = None
out_in InDoubt = None
out_in (Runs running) = running.out

-- of a node: the job that is out there, whether it runs, and its epoch
pub record Look : Type 0 where
  pub out : Option JobView
  pub runs : Bool
  pub epoch : ℕ

abbrev pub look_of : NodeView → Look
look_of node = record { out = out_in node.mode; runs = is_running node.mode; epoch = node.kept.epoch }

abbrev pub look_on : Option StationView → Look
look_on None = record { out = None; runs = false; epoch = 0 }
look_on (Some station) = look_of station.node

abbrev pub look_at : WorldView → ℕ → Look
look_at world node = look_on (slice_get world.stations node)

-- a job is out at a node
abbrev pub IsOutAt : WorldView → ℕ → JobView → Type 0
IsOutAt world node job = (look_at world node).out ≡ Some job

-- A node runs before and after, in one epoch. (Whoever crashes is down, and whoever goes back is in the next epoch.)
abbrev pub RunsOn : Look → Look → Type 0
RunsOn old new = (old.runs ≡ true) × (new.runs ≡ true) × (new.epoch ≡ old.epoch)

-- ---- what a history says

-- what came back of this job was taken in at this node
abbrev pub IsInstallOf : ℕ → JobView → Happening → Type 0
IsInstallOf node job (Made maker (OfJob back) said) =
    (back ≡ job) × (node_in job.code ≡ node) × (said ≡ reply.Installed)
IsInstallOf node job (Made maker (Plainly event) said) = ⊥
IsInstallOf node job (Silent reason) = ⊥
IsInstallOf node job (Widened channel) = ⊥

-- an entry is a grant of this job by this node
pub record IsGrantOf (fits : List (RecordView → Bool)) (script : List ScriptedEvent) (node : ℕ) (job : JobView) (maker : Maker)
    (kept : KeptEventView) (said : KeptReply) (passed : ℕ) (old new : ArmedView) : Type 0 where
  pub made : IsMade fits script maker kept said passed old new
  pub event : made.event ≡ OfWorld (ByNode node Grant)
  pub answer : made.answer ≡ reply.Granted job

-- By a history a job is out at a node: the last entry granted it there; or it was so before the last one, which didn't install it, and
-- over which the node ran on.
pub data IsOutBy (fits : List (RecordView → Bool)) (script : List ScriptedEvent) (opening : WorldView) (node : ℕ) (job : JobView)
    : List Happening → ℕ → ArmedView → Type 0 where
  was_granted : (before all : List Happening) (maker : Maker) (kept : KeptEventView) (said : KeptReply) (passed after : ℕ)
      (old new : ArmedView) → IsReplay fits script opening before passed old
      → IsGrantOf fits script node job maker kept said passed old new
      → all ≡ before ++ Made maker kept said ∷ [] → after ≡ passed_by maker passed
      → IsOutBy fits script opening node job all after new
  still_out : (before all : List Happening) (next : Happening) (passed after : ℕ) (old new : ArmedView)
      → IsOutBy fits script opening node job before passed old → Happens fits script next passed old new
      → ¬ (IsInstallOf node job next) → RunsOn (look_at old.world node) (look_at new.world node)
      → all ≡ before ++ next ∷ [] → after ≡ passed_after next passed
      → IsOutBy fits script opening node job all after new

-- ---- the laws

-- Just those jobs are out that are so by the history, where none was out in the world with which it begins.
abbrev pub JobsAreTold : Type 0
JobsAreTold = (fits : List (RecordView → Bool)) (script : List ScriptedEvent) (opening : WorldView)
    (happened : List Happening) (passed : ℕ) (armed : ArmedView)
    → ((node : ℕ) → (look_at opening node).out ≡ None) → IsReplay fits script opening happened passed armed
    → (node : ℕ) (job : JobView)
    → (IsOutAt armed.world node job → IsOutBy fits script opening node job happened passed armed)
    × (IsOutBy fits script opening node job happened passed armed → IsOutAt armed.world node job)

-- What comes back of a job is taken in exactly where the job is out by the history, and is else discarded.
abbrev pub InstallsFollowGrants : Type 0
InstallsFollowGrants = (fits : List (RecordView → Bool)) (script : List ScriptedEvent) (opening : WorldView)
    (happened : List Happening) (passed : ℕ) (old : ArmedView) (done : DoneView) (answer : ReplyView) (new : ArmedView)
    (fit : RecordView → Bool) (station : StationView)
    → ((node : ℕ) → (look_at opening node).out ≡ None) → IsReplay fits script opening happened passed old
    → slice_get fits (event_node (Install done)) ≡ Some fit
    → slice_get old.world.stations (event_node (Install done)) ≡ Some station
    → IsArmedStep fits (OfWorld (Install done)) old answer new
    → ((answer ≡ reply.Installed) × IsOutBy fits script opening (event_node (Install done)) done.job happened passed old)
    ⊎ ((answer ≡ reply.Discarded)
    × ¬ (IsOutBy fits script opening (event_node (Install done)) done.job happened passed old))
