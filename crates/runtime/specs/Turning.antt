-- A run by turns, turn by turn.
use Rattle.std.specs.Prelude.{◌≡◌, ◌==◌, ℕ, zero, suc, ◌+◌, ◌%◌, nat_lt, if◌then◌else◌, Bool, true, false, List}
use Rattle.protocol.specs.Node.Common.{RecordView}
use Rattle.protocol.specs.World.Common.{choice, DoneView, Install, ReplyView, WorldView}
use Rattle.protocol.specs.declared.reply.Reply.TheVariants.{Granted}
use Rattle.replay.specs.Armed.{ArmedView, IsArmedStep, OfWorld, armed_at_first, armed_widened}
use Rattle.replay.specs.Plain.{run_view}
use Rattle.replay.specs.Replay.{is_line_late}
use Rattle.replay.specs.Rests.{next_turn}
use Rattle.replay.specs.declared.kept.NextTurn.{NextTurn}
use Rattle.replay.specs.declared.kept.NextTurn.TheVariants as next
use Rattle.replay.specs.declared.kept.RunEvent.{RunEvent}
use Rattle.replay.specs.declared.kept.ScriptedEvent.{ScriptedEvent}
use Rattle.run_log.specs.declared.answer.FaultAnswer.{FaultAnswer}
use Rattle.run_log.specs.declared.answer.FaultAnswer.TheVariants as fault
use Rattle.run_log.specs.Turns.{NextLine, Due, Early, Over, next_line}
use Rattle.runtime.specs.Beginning.{first_lines}
use Rattle.runtime.specs.declared.ending.RunEnd.{RunEnd}
use Rattle.runtime.specs.declared.ending.RunEnd.TheVariants.{Complete, Rounds, Items, Refused, Stopped}

-- ---- a turn of a node

-- behind an answer: the turn on a job that was granted is taken in, and nothing else happens
abbrev pub Follows : List (RecordView → Bool) → ReplyView → ArmedView → ArmedView → Type 0
Follows fits (Granted job) old new =
    (done : DoneView) × (done.job ≡ job) × (answer : ReplyView) × IsArmedStep fits (OfWorld (Install done)) old answer new
Follows fits answer old new = new ≡ old

-- the event that is next for a node, and behind a grant the turn on that job taken in
pub record IsEventTurn (fits : List (RecordView → Bool)) (node : ℕ) (old new : ArmedView) : Type 0 where
  pub answer : ReplyView
  pub between : ArmedView
  pub step : IsArmedStep fits (OfWorld (choice old.world node)) old answer between
  pub follows : Follows fits answer between new

abbrev pub IsTurnBy : NextTurn → List (RecordView → Bool) → ℕ → ArmedView → ArmedView → Type 0
IsTurnBy next.Rest fits node old new = new ≡ old
IsTurnBy (next.Widen channel) fits node old new = new ≡ armed_widened channel old
IsTurnBy next.Make fits node old new = IsEventTurn fits node old new

-- A turn of a node is what comes next there: nothing, where it has let its turn pass in this round and could only do so again; more room for
-- a channel, where a process of the node is held that needs it; or the event that is next for it.
abbrev pub IsNodeTurn : List (RecordView → Bool) → ℕ → ArmedView → ArmedView → Type 0
IsNodeTurn fits node old new = IsTurnBy (next_turn old.world node) fits node old new

-- ---- a line of the script

-- how far a run has come: its world, and how many lines of its script are passed
pub record Progress : Type 0 where
  pub armed : ArmedView
  pub passed : ℕ

abbrev pub progress : ArmedView → ℕ → Progress
progress armed passed = record { armed = armed; passed = passed }

abbrev pub IsPassedBy : NextLine → List (RecordView → Bool) → Progress → Progress → Type 0
IsPassedBy (Due event) fits old new =
    (answer : ReplyView) × IsArmedStep fits (run_view event) old.armed answer new.armed × (new.passed ≡ old.passed + 1)
IsPassedBy Early fits old new = new ≡ old
IsPassedBy Over fits old new = new ≡ old

-- the event of the script's next line, if there is one and its round has come; else nothing
abbrev pub IsLinePassed : List (RecordView → Bool) → List ScriptedEvent → Progress → Progress → Type 0
IsLinePassed fits script old new = IsPassedBy (next_line script old.passed old.armed.world.round) fits old new

-- the driver's turn was an event
abbrev pub was_passed : FaultAnswer → Bool
was_passed (fault.Reply reply) = true
was_passed fault.NotYet = false
was_passed fault.NoMore = false
was_passed fault.Stopped = false

-- so many lines, one after another, each of which is due
abbrev pub ArePassed : List (RecordView → Bool) → List ScriptedEvent → ℕ → Progress → Progress → Type 0
ArePassed fits script zero first now = now ≡ first
ArePassed fits script (suc lines) first now =
    (before : Progress) × ArePassed fits script lines first before
    × ((event : RunEvent) × (next_line script before.passed before.armed.world.round ≡ Due event))
    × IsLinePassed fits script before now

-- ---- a run

-- the node of a turn, the first one being 0: the nodes, so many, take their turns one after another
abbrev pub turn_node : ℕ → ℕ → ℕ
turn_node nodes turn = if nat_lt 0 nodes then turn % nodes else 0

-- the script's next line is late
abbrev pub is_late : List ScriptedEvent → Progress → Bool
is_late script at = is_line_late script at.passed at.armed.world.round

-- so many late lines, one after another
abbrev pub AreLate : List (RecordView → Bool) → List ScriptedEvent → ℕ → Progress → Progress → Type 0
AreLate fits script zero first now = now ≡ first
AreLate fits script (suc lines) first now =
    (before : Progress) × AreLate fits script lines first before × (is_late script before ≡ true) × IsLinePassed fits script before now

-- each line that is late, one after another, until none is
pub record AreCaughtUp (fits : List (RecordView → Bool)) (script : List ScriptedEvent) (old new : Progress) : Type 0 where
  pub lines : ℕ
  pub late : AreLate fits script lines old new
  pub none : is_late script new ≡ false

abbrev pub IsLineBeforeBy : Bool → List (RecordView → Bool) → List ScriptedEvent → Progress → Progress → Type 0
IsLineBeforeBy true fits script old new = IsLinePassed fits script old new
IsLineBeforeBy false fits script old new = new ≡ old

-- Before a turn of this node: a line of the script before each turn of node 0, if one is due; and then each that is late, before any turn.
pub record IsLineBefore (fits : List (RecordView → Bool)) (script : List ScriptedEvent) (node : ℕ) (old new : Progress) : Type 0 where
  pub between : Progress
  pub line : IsLineBeforeBy (node == 0) fits script old between
  pub caught_up : AreCaughtUp fits script between new

-- So many turns lead from one world of so many nodes to another, and the lines before the next turn are passed; none is taken where a run is
-- over.
abbrev pub CameTo : (WorldView → Bool) → ℕ → List (RecordView → Bool) → List ScriptedEvent → ℕ → Progress → Progress → Type 0
CameTo over nodes fits script zero first now = IsLineBefore fits script (turn_node nodes 0) first now
CameTo over nodes fits script (suc turns) first now =
    (before : Progress) × (after : ArmedView) × CameTo over nodes fits script turns first before
    × (over before.armed.world ≡ false) × IsNodeTurn fits (turn_node nodes turns) before.armed after
    × IsLineBefore fits script (turn_node nodes (suc turns)) (progress after before.passed) now

-- turns are taken until the run is over
pub record TakesTurns (over : WorldView → Bool) (nodes : ℕ) (fits : List (RecordView → Bool)) (script : List ScriptedEvent) (first : Progress)
    (now : ArmedView) : Type 0
  where
    pub turns : ℕ
    pub last : Progress
    pub came : CameTo over nodes fits script turns first last
    pub ended : over last.armed.world ≡ true
    pub same : now ≡ last.armed

-- Turns are taken to this end. Nobody may stop a run by turns. (Where a call was refused nothing is said.)
abbrev pub AreTaken : (WorldView → Bool) → ℕ → List (RecordView → Bool) → List ScriptedEvent → Progress → ArmedView → RunEnd → Type 0
AreTaken over nodes fits script first now Complete = TakesTurns over nodes fits script first now
AreTaken over nodes fits script first now Rounds = TakesTurns over nodes fits script first now
AreTaken over nodes fits script first now Items = TakesTurns over nodes fits script first now
AreTaken over nodes fits script first now (Refused fault) = Unit {0}
AreTaken over nodes fits script first now Stopped = ⊥

-- A run by turns: the script's lines of round 0 are passed before all else, and then turns are taken until the run is over.
pub record IsRunByTurns (over : WorldView → Bool) (nodes : ℕ) (fits : List (RecordView → Bool)) (script : List ScriptedEvent)
    (first now : WorldView) : Type 0
  where
    pub begun : Progress
    pub armed : ArmedView
    pub begins : ArePassed fits script (first_lines script) (progress (armed_at_first first) 0) begun
    pub takes : TakesTurns over nodes fits script begun armed
    pub same : now ≡ armed.world

-- A run by turns came to its end so. Nobody may stop one. (Of one of which a call was refused nothing is said here.)
abbrev pub EndsByTurns : (WorldView → Bool) → ℕ → List (RecordView → Bool) → List ScriptedEvent → WorldView → WorldView → RunEnd
    → Type 0
EndsByTurns over nodes fits script first now Complete = IsRunByTurns over nodes fits script first now
EndsByTurns over nodes fits script first now Rounds = IsRunByTurns over nodes fits script first now
EndsByTurns over nodes fits script first now Items = IsRunByTurns over nodes fits script first now
EndsByTurns over nodes fits script first now (Refused fault) = Unit {0}
EndsByTurns over nodes fits script first now Stopped = ⊥
