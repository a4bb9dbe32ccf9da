-- A history as data.
use Rattle.std.specs.Prelude.{◌≡◌, ℕ, zero, suc, ◌+◌, Bool, true, false, List, [], ◌∷◌, ◌++◌, drop, Some, slice_get}
use Rattle.std.specs.List.{flat_map}
use Rattle.world.specs.Events.{shared_view}
use Rattle.protocol.specs.declared.event.Deed.{Deed}
use Rattle.protocol.specs.declared.event.Deed.TheVariants as deed
use Rattle.protocol.specs.declared.event.PlainEvent.TheVariants as plain
use Rattle.protocol.specs.declared.reply.Reply.TheVariants.{Delivered, Granted, Installed, Discarded, Sent, Started, Decided, Released, Idled}
use Rattle.replay.specs.Laws.{no_event}
use Rattle.replay.specs.Replay.{Happening, KeptEventView, Made, OfJob, Plainly, Silent, Widened}
use Rattle.replay.specs.Replies.{KeptReply}
use Rattle.replay.specs.declared.kept.Maker.{Maker}
use Rattle.replay.specs.declared.kept.Maker.TheVariants.{Node}
use Rattle.replay.specs.declared.kept.RunEvent.{RunEvent}
use Rattle.replay.specs.declared.kept.RunEvent.TheVariants as run
use Rattle.replay.specs.declared.kept.Silence.{Silence}
use Rattle.run_log.specs.declared.history.KeptEvent.{KeptEvent}
use Rattle.run_log.specs.declared.history.KeptEvent.TheVariants as kept
use Rattle.run_log.specs.declared.history.Line.{Line}
use Rattle.run_log.specs.declared.history.Line.TheVariants as line
use Rattle.run_log.specs.declared.history.Usual.{Usual}
use Rattle.run_log.specs.declared.history.UsualEvent.{UsualEvent}
use Rattle.run_log.specs.declared.history.UsualEvent.TheVariants as usual

abbrev pub kept_view : KeptEvent → KeptEventView
kept_view (kept.Plain event) = Plainly event
kept_view (kept.Install job) = OfJob (shared_view job)

-- the answer so many places behind one, where numbers of items that left rise by one, and where they don't
abbrev pub nth_answer : Bool → ℕ → KeptReply → KeptReply
nth_answer true n (Released left) = Released (record { output = left.output; number = left.number + n })
nth_answer true n answer = answer
nth_answer false n answer = answer

-- an event so many times, one after another
abbrev pub made_times : Bool → ℕ → Maker → KeptEventView → KeptReply → List Happening
made_times rises zero maker event answer = []
made_times rises (suc n) maker event answer =
    made_times rises n maker event answer ++ Made maker event (nth_answer rises n answer) ∷ []

-- what a node does in a usual event
abbrev pub usual_deed : UsualEvent → Deed
usual_deed usual.Deliver = deed.Deliver 0
usual_deed usual.Grant = deed.Grant
usual_deed usual.Send = deed.Send
usual_deed usual.Start = deed.Start
usual_deed usual.Decide = deed.Decide
usual_deed usual.Idle = deed.Idle

abbrev pub usual_event : ℕ → UsualEvent → RunEvent
usual_event node event = run.World (plain.ByNode node (usual_deed event))

-- how it is answered
abbrev pub usual_reply : UsualEvent → KeptReply
usual_reply usual.Deliver = Delivered
usual_reply usual.Grant = Granted tt
usual_reply usual.Send = Sent
usual_reply usual.Start = Started
usual_reply usual.Decide = Decided
usual_reply usual.Idle = Idled

-- a usual event of this node
abbrev pub usual_made : ℕ → UsualEvent → Happening
usual_made node event = Made (Node node) (Plainly (usual_event node event)) (usual_reply event)

-- it so often
abbrev pub usually : Usual → List Happening
usually row = made_times false row.times (Node row.node) (Plainly (usual_event row.node row.event)) (usual_reply row.event)

-- an item leaves a node by this output, with this number
abbrev pub left_event : ℕ → KeptEventView
left_event node = Plainly (run.World (plain.Release node))

abbrev pub left_reply : ℕ → ℕ → KeptReply
left_reply output number = Released (record { output = output; number = number })

-- how a turn that came back is answered
abbrev pub back_reply : Bool → KeptReply
back_reply true = Installed
back_reply false = Discarded

abbrev pub happenings_of : Line → List Happening
happenings_of (line.Few rows) = flat_map usually rows
happenings_of (line.Left node output times first) = made_times true times (Node node) (left_event node) (left_reply output first)
happenings_of (line.CameBack node is_taken job) = Made (Node node) (OfJob (shared_view job)) (back_reply is_taken) ∷ []
happenings_of (line.Long long) =
    made_times false long.value.times long.value.entry.maker (kept_view long.value.entry.event) long.value.entry.reply
happenings_of (line.Silent reason count) = Silent reason ∷ []
happenings_of (line.Widened channel) = Widened channel ∷ []

-- what happened in a run, of the lines in which it is kept, in order
abbrev pub happenings : List Line → List Happening
happenings lines = flat_map happenings_of lines

-- a channel got more room
abbrev pub IsWidened : ℕ → List Line → List Line → Type 0
IsWidened channel before now = now ≡ before ++ line.Widened channel ∷ []

-- at this place it was said why no event was made, and none was made since
abbrev pub IsSaidAt : List Line → ℕ → Silence → Type 0
IsSaidAt lines place reason =
    (count : ℕ) × (slice_get lines place ≡ Some (line.Silent reason count))
    × (no_event (happenings (drop (place + 1) lines)) ≡ true)
