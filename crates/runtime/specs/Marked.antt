-- How far the marks of a node's outputs have come.
use Rattle.std.specs.Prelude.{◌≡◌, ◌<◌, ◌≤◌, ◌⊎◌, ℕ, Bool, true, false, List, length, Option, Result, Ok, Err}
use Rattle.marks.specs.Known.{greatest}
use Rattle.marks.specs.Owners.{IsOutputOf}
use Rattle.node_memory.specs.JobView.{shared_view}
use Rattle.protocol.specs.Node.Common.{MAX_CHANNELS}
use Rattle.protocol.specs.World.Common.{WorldView, node_in, released_of}
use Rattle.protocol.specs.declared.reply.Reply.TheVariants as reply
use Rattle.replay.specs.Endings.{may_have_left}
use Rattle.run_log.specs.declared.answer.TurnAnswer.{TurnAnswer}
use Rattle.run_log.specs.declared.answer.TurnAnswer.TheVariants as turn
use Rattle.station.specs.ReplyView.{Reply, reply_view}
use Rattle.runtime.specs.declared.turned.Turned.{Turned}
use Rattle.runtime.specs.declared.turned.Turned.TheVariants as turned

-- an answer to a node's turn behind which an item may have left
abbrev pub may_let_leave : TurnAnswer → Bool
may_let_leave (turn.Reply reply) = may_have_left (reply_view reply)
may_let_leave turn.Nothing = false
may_let_leave turn.Late = false
may_let_leave (turn.Widened channel) = false
may_let_leave turn.Stopped = false

-- and a call that is answered so; one that is refused lets nothing leave
abbrev pub may_leave_by : {E : Type 0} → Result TurnAnswer E → Bool
may_leave_by (Ok answer) = may_let_leave answer
may_leave_by (Err fault) = false

-- what an answer comes to for a worker
abbrev pub turned_by : Reply → Turned
turned_by (reply.Granted job) = turned.Granted (record { job = job })
turned_by (reply.Released left) = turned.Acts true
turned_by reply.OutletFailed = turned.Acts true
turned_by other = turned.Acts false

abbrev pub turned_of : TurnAnswer → Turned
turned_of (turn.Reply reply) = turned_by reply
turned_of turn.Nothing = turned.Rests
turned_of turn.Late = turned.Waits
turned_of (turn.Widened channel) = turned.Acts false
turned_of turn.Stopped = turned.Waits

-- the same for what a worker makes of the answer
abbrev pub lets_leave : Turned → Bool
lets_leave (turned.Acts left) = left
lets_leave (turned.Granted grant) = false
lets_leave turned.Rests = false
lets_leave turned.Waits = false

abbrev pub leaves_by : {E : Type 0} → Result Turned E → Bool
leaves_by (Ok answer) = lets_leave answer
leaves_by (Err refusal) = false

-- a job that was granted is of a process of this node
abbrev pub IsGrantAt : ℕ → Turned → Type 0
IsGrantAt node (turned.Granted grant) = node_in (shared_view grant.job).code ≡ node
IsGrantAt node (turned.Acts left) = Unit {0}
IsGrantAt node turned.Rests = Unit {0}
IsGrantAt node turned.Waits = Unit {0}

-- the same has left by each output as before
abbrev pub HasLeftAsMuch : WorldView → WorldView → Type 0
HasLeftAsMuch new old = (channel : ℕ) → released_of channel new.stations ≡ released_of channel old.stations

-- The marks of each output of the node tell at least how many items have left by it. `known` is what a seat knows to have been raised.
abbrev pub AreMarked : List (Option ℕ) → Option ℕ → (ℕ → List ℕ) → WorldView → Type 0
AreMarked owners node known world =
    (output : ℕ) → output < MAX_CHANNELS → IsOutputOf owners node output
    → length (released_of output world.stations) ≤ greatest (known output)

-- Behind a node's turns: nothing left by any output, or its marks tell what has left, or the run is stopped, where a call was refused.
abbrev pub IsMarkedBehind : Type 0 → Type 0 → Bool → Type 0
IsMarkedBehind as_much marked stopped = ∥ as_much ⊎ (marked ⊎ (stopped ≡ true)) ∥₁
