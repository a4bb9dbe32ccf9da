-- What is answered, and what an answer and an event tell of memory and cells.
use Rattle.std.specs.Prelude.{◌≡◌, ℕ, Bool, true, false, Option, Some, None}
use Rattle.protocol.specs.Node.JobView.{JobView}
use Rattle.protocol.specs.Node.NodeView.{ModeView, Down, InDoubt, Runs}
use Rattle.protocol.specs.declared.delivery.Delivery.{Delivery}
use Rattle.protocol.specs.declared.delivery.Delivery.TheVariants as delivery
use Rattle.protocol.specs.declared.outcome.Outcome.{Outcome}
use Rattle.protocol.specs.declared.outcome.Outcome.TheVariants as outcome
use Rattle.protocol.specs.declared.outcome.Refusal.TheVariants.{TooLarge, Spent}
use Rattle.protocol.specs.World.EventView.{EventView, ByNode, ByNetwork, Install, Release, node_in}
use Rattle.protocol.specs.declared.event.Deed.{Deed}
use Rattle.protocol.specs.declared.event.NetworkAct.{NetworkAct}
use Rattle.protocol.specs.declared.event.Deed.TheVariants as event
use Rattle.protocol.specs.declared.event.NetworkAct.TheVariants as act_is
use Rattle.protocol.specs.World.ReplyView.{ReplyView}
use Rattle.protocol.specs.declared.reply.Reply.TheVariants as reply

-- ---- answers to events

-- the answer to a deed by how it came out: `made` where it was made, and `otherwise` where its record is too large
abbrev pub answer_by : ReplyView → ReplyView → Outcome → ReplyView
answer_by made otherwise outcome.NotDue = reply.NotDue
answer_by made otherwise outcome.Made = made
answer_by made otherwise (outcome.Refused TooLarge) = otherwise
answer_by made otherwise (outcome.Refused Spent) = reply.Refused Spent
answer_by made otherwise outcome.Failed = reply.Down

-- what a node did with bytes that came to it
abbrev pub delivery_reply : Delivery → ReplyView
delivery_reply delivery.NotDue = reply.NotDue
delivery_reply delivery.Delivered = reply.Delivered
delivery_reply delivery.Dropped = reply.Dropped

-- a node came back in this mode
abbrev pub back_reply : ModeView → ReplyView
back_reply Down = reply.Recovered
back_reply InDoubt = reply.InDoubt
back_reply (Runs running) = reply.Recovered

-- the job that can be granted is
abbrev pub grant_reply : Option JobView → ReplyView
grant_reply None = reply.NotDue
grant_reply (Some job) = reply.Granted job

-- an act of the network happened where there was a packet at the place
abbrev pub act_reply : Bool → ReplyView
act_reply true = reply.Acted
act_reply false = reply.NotDue

-- what came back is taken in where it is of the job that is out
abbrev pub install_reply : Bool → ReplyView
install_reply true = reply.Installed
install_reply false = reply.Discarded

-- ---- what an answer tells

-- something happened
abbrev pub has_happened : ReplyView → Bool
has_happened reply.NotDue = false
has_happened answer = true

-- it is answered that the record to be put is longer than the cell has room for
abbrev pub IsTooLarge : ReplyView → Type 0
IsTooLarge answer = answer ≡ reply.Refused TooLarge

-- it is answered that a packet came which spells none for the node
abbrev pub IsDropped : ReplyView → Type 0
IsDropped answer = answer ≡ reply.Dropped

-- a job that was granted is of a process of this node
abbrev pub IsGrantedAt : ℕ → ReplyView → Type 0
IsGrantedAt node answer = (job : JobView) → answer ≡ reply.Granted job → node_in job.code ≡ node

-- by this answer no record was put, and none may have been
abbrev pub AnswerLeaves : Option ReplyView → Type 0
AnswerLeaves (Some reply.Delivered) = ⊥
AnswerLeaves (Some reply.Started) = ⊥
AnswerLeaves (Some reply.Decided) = ⊥
AnswerLeaves (Some reply.Down) = ⊥
AnswerLeaves answer = Unit {0}

-- No cell was touched by a deed, as this answer tells. A crash settles what the cell holds, a recovery looks at the
-- device before it can be refused, and what is prepared is prepared in the cell, so these leave it alone only where
-- they can't happen.
abbrev pub DeedLeaves : Deed → Option ReplyView → Type 0
DeedLeaves (event.Crash fill rounds) answer = answer ≡ Some reply.NotDue
DeedLeaves event.Recover answer = answer ≡ Some reply.NotDue
DeedLeaves (event.Arm fault rounds) answer = answer ≡ Some reply.NotDue
DeedLeaves deed answer = AnswerLeaves answer

-- no cell was touched by an event, as its answer tells
abbrev pub LeavesCells : EventView → Option ReplyView → Type 0
LeavesCells (ByNode k deed) answer = DeedLeaves deed answer
LeavesCells (Install done) answer = Unit {0}
LeavesCells (Release k) answer = Unit {0}
LeavesCells (ByNetwork k place act) answer = Unit {0}

-- an event that takes memory: any but a crash, an idle turn, a loss and a delay
abbrev pub DeedTakesMemory : Deed → Type 0
DeedTakesMemory (event.Crash fill rounds) = ⊥
DeedTakesMemory event.Idle = ⊥
DeedTakesMemory deed = Unit {0}

abbrev pub ActTakesMemory : NetworkAct → Type 0
ActTakesMemory act_is.Repeat = Unit {0}
ActTakesMemory (act_is.ArmPacket from nth change) = Unit {0}
ActTakesMemory act = ⊥

-- an event that takes memory, so that it may be refused for want of it
abbrev pub TakesMemory : EventView → Type 0
TakesMemory (ByNode k deed) = DeedTakesMemory deed
TakesMemory (Install done) = Unit {0}
TakesMemory (Release k) = Unit {0}
TakesMemory (ByNetwork k place act) = ActTakesMemory act
