-- A network at work, step by step.
use Rattle.std.specs.Prelude.{◌≡◌, ◌≤◌, ℕ, zero, suc, nat_lt, Bool, if◌then◌else◌, true, false, List, Option, Some, None}
use Rattle.protocol.specs.Node.Common.{JobView, RecordView}
use Rattle.protocol.specs.World.Common.{choice, DoneView, Install, IsStep, ReplyView, WorldView}
use Rattle.protocol.specs.World.Quiet.{are_quiet}
use Rattle.protocol.specs.World.RoomNeeds.{widened_at}
use Rattle.protocol.specs.declared.reply.Reply.TheVariants.{Granted}
use Rattle.replay.specs.Rests.{next_turn}
use Rattle.replay.specs.declared.kept.NextTurn.{NextTurn}
use Rattle.replay.specs.declared.kept.NextTurn.TheVariants as next
use Rattle.live.specs.declared.live.Pause.{Pause}
use Rattle.live.specs.declared.live.Pause.TheVariants as pause

-- a world, the node whose turn is next, and the job that is out, if one is
pub record LiveView : Type 0 where
  pub world : WorldView
  pub node : ℕ
  pub out : Option JobView

-- the node whose turn comes behind that of this one
abbrev pub next_node : ℕ → ℕ → ℕ
next_node nodes node = if nat_lt (suc node) nodes then suc node else 0

-- the job that an answer grants
abbrev pub granted_job : ReplyView → Option JobView
granted_job (Granted job) = Some job
granted_job answer = None

-- ---- a turn of a node

-- the event that is next for the node
pub record IsEventTurn (fits : List (RecordView → Bool)) (node : ℕ) (old : WorldView) (job : Option JobView) (new : WorldView) : Type 0
  where
    pub answer : ReplyView
    pub step : IsStep fits (choice old node) old answer new
    pub granted : job ≡ granted_job answer

abbrev pub IsTurnBy : NextTurn → List (RecordView → Bool) → ℕ → WorldView → Option JobView → WorldView → Type 0
IsTurnBy next.Rest fits node old job new = (job ≡ None) × (new ≡ old)
IsTurnBy (next.Widen channel) fits node old job new = (job ≡ None) × (new ≡ widened_at channel old)
IsTurnBy next.Make fits node old job new = IsEventTurn fits node old job new

-- A node's turn is what comes next there: nothing, where it has let its turn pass in this round and could only do so again; more room for a
-- channel, where a process of the node is held that needs it; or the event that is next for it. It may grant a job.
abbrev pub IsTurn : List (RecordView → Bool) → ℕ → WorldView → Option JobView → WorldView → Type 0
IsTurn fits node old job new = IsTurnBy (next_turn old node) fits node old job new

-- ---- a step

-- what comes of this job is taken in
pub record IsTakenIn (fits : List (RecordView → Bool)) (job : JobView) (old new : WorldView) : Type 0 where
  pub done : DoneView
  pub of_job : done.job ≡ job
  pub answer : ReplyView
  pub step : IsStep fits (Install done) old answer new

abbrev pub IsLiveStepBy : Option JobView → List (RecordView → Bool) → ℕ → LiveView → LiveView → Type 0
IsLiveStepBy (Some job) fits nodes old new = IsTakenIn fits job old.world new.world × (new.out ≡ None) × (new.node ≡ old.node)
IsLiveStepBy None fits nodes old new = IsTurn fits old.node old.world new.out new.world × (new.node ≡ next_node nodes old.node)

-- The job that is out is run, and comes back; where none is out, the node whose turn is next takes it.
abbrev pub IsLiveStep : List (RecordView → Bool) → ℕ → LiveView → LiveView → Type 0
IsLiveStep fits nodes old new = IsLiveStepBy old.out fits nodes old new

-- so many steps, one after another, each while something is left to do
abbrev pub AreSteps : List (RecordView → Bool) → ℕ → ℕ → LiveView → LiveView → Type 0
AreSteps fits nodes zero old new = new ≡ old
AreSteps fits nodes (suc steps) old new =
    (between : LiveView) × AreSteps fits nodes steps old between × (are_quiet between.world ≡ false) × IsLiveStep fits nodes between new

-- ---- many steps

-- why no more were made, of so many that were asked for
abbrev pub IsPause : Pause → (steps most : ℕ) → WorldView → Type 0
IsPause pause.Rests steps most now = are_quiet now ≡ true
IsPause pause.GoesOn steps most now = (steps ≡ most) × (are_quiet now ≡ false)

-- At most so many steps were made.
pub record ArePart (fits : List (RecordView → Bool)) (nodes most : ℕ) (old new : LiveView) : Type 0 where
  pub steps : ℕ
  pub few : steps ≤ most
  pub made : AreSteps fits nodes steps old new

-- Steps are made until nothing is left to do, or so many are made.
pub record IsAdvance (fits : List (RecordView → Bool)) (nodes most : ℕ) (old : LiveView) (pause : Pause) (new : LiveView) : Type 0 where
  pub steps : ℕ
  pub few : steps ≤ most
  pub made : AreSteps fits nodes steps old new
  pub paused : IsPause pause steps most new.world
