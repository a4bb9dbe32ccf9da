-- What a call of a run's log does to its world, by what it answers.
use Rattle.std.specs.Prelude.{◌≡◌, ◌+◌, ℕ, nat_le, Bool, true, false, if◌then◌else◌, List, Option, Some, None, slice_get}
use Rattle.protocol.specs.Node.Common.{RecordView}
use Rattle.protocol.specs.World.Common.{choice}
use Rattle.replay.specs.Armed.{ArmedView, IsArmedStep, OfWorld, armed_widened}
use Rattle.replay.specs.Plain.{run_view}
use Rattle.replay.specs.Replay.{is_line_late}
use Rattle.replay.specs.Rests.{next_turn}
use Rattle.replay.specs.declared.kept.NextTurn.TheVariants as next
use Rattle.replay.specs.declared.kept.RunEvent.{RunEvent}
use Rattle.replay.specs.declared.kept.ScriptedEvent.{ScriptedEvent}
use Rattle.run_log.specs.declared.answer.FaultAnswer.{FaultAnswer}
use Rattle.run_log.specs.declared.answer.FaultAnswer.TheVariants as fault
use Rattle.run_log.specs.declared.answer.TurnAnswer.{TurnAnswer}
use Rattle.run_log.specs.declared.answer.TurnAnswer.TheVariants as turn
use Rattle.world.specs.Events.{reply_view}

-- A node's turn is what comes next there: a line of the script that is late comes before it, so nothing is done; else the event that is next for
-- the node, more room for a channel, where a process of the node is held that needs it, or nothing, where all that the node could do is to let
-- its turn pass, as it has done in this round (`next_turn`). Where the run is stopped it is nothing too.
abbrev pub IsTurn : List (RecordView → Bool) → List ScriptedEvent → ℕ → ℕ → TurnAnswer → ArmedView → ArmedView → Type 0
IsTurn fits script passed node (turn.Reply reply) old new =
    (is_line_late script passed old.world.round ≡ false) × (next_turn old.world node ≡ next.Make)
    × IsArmedStep fits (OfWorld (choice old.world node)) old (reply_view reply) new
IsTurn fits script passed node turn.Nothing old new =
    (is_line_late script passed old.world.round ≡ false) × (next_turn old.world node ≡ next.Rest) × (new ≡ old)
IsTurn fits script passed node (turn.Widened channel) old new =
    (is_line_late script passed old.world.round ≡ false) × (next_turn old.world node ≡ next.Widen channel)
    × (new ≡ armed_widened channel old)
IsTurn fits script passed node turn.Late old new = (is_line_late script passed old.world.round ≡ true) × (new ≡ old)
IsTurn fits script passed node turn.Stopped old new = new ≡ old

-- What comes at the driver's turn: the event of the script's next line, once its round has come; or nothing, where it hasn't, or where no line is
-- left.
pub data NextLine : Type 0 where
  Due : (event : RunEvent) → NextLine
  Early : NextLine
  Over : NextLine

abbrev pub next_line_by : ℕ → Option ScriptedEvent → NextLine
next_line_by round None = Over
next_line_by round (Some line) = if nat_le line.round round then Due line.event else Early

-- a line is due
abbrev pub is_due : NextLine → Bool
is_due (Due event) = true
is_due Early = false
is_due Over = false

abbrev pub next_line : List ScriptedEvent → ℕ → ℕ → NextLine
next_line script passed round = next_line_by round (slice_get script passed)

-- The driver's turn is what comes next there. Where the run is stopped it is nothing.
abbrev pub IsFault : List (RecordView → Bool) → List ScriptedEvent → ℕ → FaultAnswer → ArmedView → ArmedView → Type 0
IsFault fits script passed (fault.Reply reply) old new =
    (event : RunEvent) × (next_line script passed old.world.round ≡ Due event)
    × IsArmedStep fits (run_view event) old (reply_view reply) new
IsFault fits script passed fault.NotYet old new = (next_line script passed old.world.round ≡ Early) × (new ≡ old)
IsFault fits script passed fault.NoMore old new = (next_line script passed old.world.round ≡ Over) × (new ≡ old)
IsFault fits script passed fault.Stopped old new = new ≡ old

-- how many lines of the script are passed then
abbrev pub passed_then : FaultAnswer → ℕ → ℕ
passed_then (fault.Reply reply) passed = passed + 1
passed_then fault.NotYet passed = passed
passed_then fault.NoMore passed = passed
passed_then fault.Stopped passed = passed
