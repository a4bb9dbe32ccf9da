-- What a seat is answered.
use Rattle.std.specs.Prelude.{◌≡◌, ℕ, Bool, true, List}
use Rattle.protocol.specs.Node.Common.{RecordView}
use Rattle.protocol.specs.World.Common.{IsGrantedAt, ReplyView, WorldView}
use Rattle.replay.specs.Armed.{ArmedEvent, ArmedView}
use Rattle.replay.specs.Replay.{Happening, IsMade, IsNeeded, IsReplay, IsSilence, KeptEventView}
use Rattle.replay.specs.Replies.{KeptReply}
use Rattle.replay.specs.declared.kept.Maker.{Maker}
use Rattle.replay.specs.declared.kept.Maker.TheVariants.{Node, Driver}
use Rattle.replay.specs.declared.kept.ScriptedEvent.{ScriptedEvent}
use Rattle.replay.specs.declared.kept.Silence.{Silence}
use Rattle.replay.specs.declared.kept.Silence.TheVariants.{Nothing, Late, NotYet, NoMore}
use Rattle.run_log.specs.Counts.{IsCounted}
use Rattle.run_log.specs.Added.{IsAdded}
use Rattle.run_log.specs.Lines.{IsWidened}
use Rattle.run_log.specs.Numbers.{Numbers, counted as counted_as}
use Rattle.run_log.specs.declared.history.Line.{Line}
use Rattle.run_log.specs.declared.answer.FaultAnswer.{FaultAnswer}
use Rattle.run_log.specs.declared.answer.FaultAnswer.TheVariants as fault
use Rattle.run_log.specs.declared.answer.TurnAnswer.{TurnAnswer}
use Rattle.run_log.specs.declared.answer.TurnAnswer.TheVariants as turn
use Rattle.run_log.specs.declared.answer.HubFault.{HubFault}
use Rattle.run_log.specs.declared.answer.HubFault.TheVariants.{NoMemory, PastNumber}
use Rattle.run_log.specs.declared.seat_count.Counted.{Counted}
use Rattle.run_log.specs.declared.seat_count.Counted.TheVariants as counted
use Rattle.world.specs.Events.{reply_view}

-- as what an answer counts
abbrev pub turn_kind : TurnAnswer → Counted
turn_kind (turn.Reply reply) = counted.Entry
turn_kind turn.Nothing = counted.Nothing
turn_kind turn.Late = counted.Nothing
turn_kind (turn.Widened channel) = counted.Entry
turn_kind turn.Stopped = counted.Stop

abbrev pub fault_kind : FaultAnswer → Counted
fault_kind (fault.Reply reply) = counted.Entry
fault_kind fault.NotYet = counted.NotYet
fault_kind fault.NoMore = counted.NoMore
fault_kind fault.Stopped = counted.Stop

-- a job in an answer is of a process of this node
abbrev pub IsGrantedIn : ℕ → TurnAnswer → Type 0
IsGrantedIn node (turn.Reply reply) = IsGrantedAt node (reply_view reply)
IsGrantedIn node other = Unit {0}

-- ---- what is written of it

-- Where what happens is written, the event of an answer stands behind all others, with its maker and with this very answer; so does it
-- that a channel got more room; and an answer without an event is counted, and makes no other.
abbrev pub IsTurnWritten : Bool → ℕ → List Line → List Line → TurnAnswer → Type 0
IsTurnWritten keeps node before now (turn.Reply reply) =
    (event : ArmedEvent) × IsAdded keeps (Node node) event (reply_view reply) before now
IsTurnWritten keeps node before now turn.Nothing = keeps ≡ true → IsCounted (Nothing node) before now
IsTurnWritten keeps node before now turn.Late = keeps ≡ true → IsCounted (Late node) before now
IsTurnWritten keeps node before now (turn.Widened channel) = keeps ≡ true → IsWidened channel before now
IsTurnWritten keeps node before now turn.Stopped = now ≡ before

abbrev pub IsFaultWritten : Bool → List Line → List Line → FaultAnswer → Type 0
IsFaultWritten keeps before now (fault.Reply reply) =
    (event : ArmedEvent) × IsAdded keeps Driver event (reply_view reply) before now
IsFaultWritten keeps before now fault.NotYet = keeps ≡ true → IsCounted NotYet before now
IsFaultWritten keeps before now fault.NoMore = keeps ≡ true → IsCounted NoMore before now
IsFaultWritten keeps before now fault.Stopped = now ≡ before

-- ---- what it says of the run, to whoever can't see what is written

-- A history of this run leads to a world in which this maker's event is made, and answered so.
pub record IsReplyIn (fits : List (RecordView → Bool)) (script : List ScriptedEvent) (opening : WorldView) (maker : Maker)
    (answer : ReplyView) : Type 0 where
  pub before : List Happening
  pub passed : ℕ
  pub old : ArmedView
  pub new : ArmedView
  pub kept : KeptEventView
  pub said : KeptReply
  pub run : IsReplay fits script opening before passed old
  pub made : IsMade fits script maker kept said passed old new
  pub answered : made.answer ≡ answer

-- One leads to a world in which no event is made, for this reason.
pub record IsSilentIn (fits : List (RecordView → Bool)) (script : List ScriptedEvent) (opening : WorldView) (reason : Silence)
    : Type 0 where
  pub before : List Happening
  pub passed : ℕ
  pub old : ArmedView
  pub run : IsReplay fits script opening before passed old
  pub silence : IsSilence script reason passed old.world

-- One leads to a world in which this channel needs more room.
pub record IsNeededIn (fits : List (RecordView → Bool)) (script : List ScriptedEvent) (opening : WorldView) (channel : ℕ) : Type 0 where
  pub before : List Happening
  pub passed : ℕ
  pub old : ArmedView
  pub run : IsReplay fits script opening before passed old
  pub needed : IsNeeded channel old.world

-- What a node's call is told is so in a world to which a history of this run leads: a reply is that of an event which
-- is the node's to make, a silence is the node's own, and more room was given to a channel that needs it.
abbrev pub TellsTurn : List (RecordView → Bool) → List ScriptedEvent → WorldView → ℕ → TurnAnswer → Type 0
TellsTurn fits script opening node (turn.Reply reply) = ∥ IsReplyIn fits script opening (Node node) (reply_view reply) ∥₁
TellsTurn fits script opening node turn.Nothing = ∥ IsSilentIn fits script opening (Nothing node) ∥₁
TellsTurn fits script opening node turn.Late = ∥ IsSilentIn fits script opening (Late node) ∥₁
TellsTurn fits script opening node (turn.Widened channel) = ∥ IsNeededIn fits script opening channel ∥₁
TellsTurn fits script opening node turn.Stopped = Unit {0}

-- What the driver's call is told is so in a world to which a history of this run leads: a reply is that of the
-- script's next line, which is due; else that line isn't due, or there is none.
abbrev pub TellsFault : List (RecordView → Bool) → List ScriptedEvent → WorldView → FaultAnswer → Type 0
TellsFault fits script opening (fault.Reply reply) = ∥ IsReplyIn fits script opening Driver (reply_view reply) ∥₁
TellsFault fits script opening fault.NotYet = ∥ IsSilentIn fits script opening NotYet ∥₁
TellsFault fits script opening fault.NoMore = ∥ IsSilentIn fits script opening NoMore ∥₁
TellsFault fits script opening fault.Stopped = Unit {0}

-- ---- what a seat is told

-- An event of this maker is answered so at its seat, whose numbers were these before and are these behind it. It is counted there, and the reply
-- is so in a world to which a history of this run leads.
pub record IsToldEvent (fits : List (RecordView → Bool)) (script : List ScriptedEvent) (opening : WorldView) (maker : Maker)
    (reply : ReplyView) (before after : Numbers) : Type 0 where
  pub counts : after ≡ counted_as counted.Entry before
  pub told : ∥ IsReplyIn fits script opening maker reply ∥₁

-- A node's turn is: the answer adds one to one number, to that of the events or to its own. A job that is granted is of a process of this node.
pub record IsToldTurn (fits : List (RecordView → Bool)) (script : List ScriptedEvent) (opening : WorldView) (node : ℕ)
    (answer : TurnAnswer) (before after : Numbers) : Type 0 where
  pub counts : after ≡ counted_as (turn_kind answer) before
  pub home : IsGrantedIn node answer
  pub told : TellsTurn fits script opening node answer

-- The driver's turn is.
pub record IsToldFault (fits : List (RecordView → Bool)) (script : List ScriptedEvent) (opening : WorldView) (answer : FaultAnswer)
    (before after : Numbers) : Type 0 where
  pub counts : after ≡ counted_as (fault_kind answer) before
  pub told : TellsFault fits script opening answer

-- ---- refusals

abbrev pub fault_number : HubFault → ℕ
fault_number NoMemory = 1
fault_number PastNumber = 44
