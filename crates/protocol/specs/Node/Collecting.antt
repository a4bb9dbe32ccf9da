-- The node that began a checkpoint collects what the nodes that it asked answer.
use Rattle.std.specs.Prelude.{◌==◌, ◌++◌, ℕ, nat_le, Bool, true, false, ◌&&◌, ◌||◌, not, if◌then◌else◌, List, [], ◌∷◌}
use Rattle.std.specs.Prelude.{Option, Some, None, option_map, slice_get, slice_set}
use Rattle.std.specs.List.{list_all}
use Rattle.datagram.specs.declared.packet.Need.{Need}
use Rattle.datagram.specs.declared.packet.Packet.{Packet}
use Rattle.ckpt_codec.specs.Common.{Network, sent_of, without_tentative, RecordView, Tentative}
use Rattle.recovery_line.specs.Nodes.{Answer, Awaited, By_took, By_covered}
use Rattle.recovery_line.specs.Observers.{has_node}
use Rattle.protocol.specs.Node.Answering.{holds}
use Rattle.protocol.specs.Node.Beginning.{ask_on, collecting, in_front, live_in}
use Rattle.protocol.specs.Node.Addresses.{producer_node}
use Rattle.protocol.specs.Node.LiveView.{QuestionView, LiveView}
use Rattle.protocol.specs.Node.Modes.{with_kept}
use Rattle.protocol.specs.Node.NodeView.{NodeView, RunningView, on_running}
use Rattle.protocol.specs.Node.Plans.{Prospect, Planned, becoming, putting}

-- ---- questions

abbrev pub is_awaited : Answer → Bool
is_awaited Awaited = true
is_awaited By_took = false
is_awaited By_covered = false

-- an answer to a question is missing
abbrev pub is_open : Option QuestionView → Bool
is_open None = false
is_open (Some question) = is_awaited question.answer

abbrev pub is_question : Option (Option QuestionView) → Bool
is_question None = false
is_question (Some None) = false
is_question (Some (Some question)) = true

-- of this channel something was asked
abbrev pub was_asked : ℕ → List (Option QuestionView) → Bool
was_asked c questions = is_question (slice_get questions c)

abbrev pub answered_by : Answer → Option QuestionView → Option QuestionView
answered_by answer None = None
answered_by answer (Some question) = Some (record { count = question.count; answer = answer })

abbrev pub replaced_at : {A : Type 0} → (A → A) → ℕ → List A → Option A → List A
replaced_at change place xs None = xs
replaced_at change place xs (Some x) = slice_set xs place (change x)

-- with this answer to what was asked of a channel
abbrev pub with_answer : Answer → ℕ → List (Option QuestionView) → List (Option QuestionView)
with_answer answer c questions = replaced_at (answered_by answer) c questions (slice_get questions c)

-- the checkpoint of this number is the one for which answers are collected
abbrev pub is_live : ℕ → Option LiveView → Bool
is_live n None = false
is_live n (Some live) = live.number == n

-- ---- what it asked for was put for good

abbrev pub is_open_at : Option (Option QuestionView) → Bool
is_open_at None = false
is_open_at (Some question) = is_open question

-- an answer is missing of this channel, for the checkpoint of this number
abbrev pub awaits : ℕ → ℕ → Option LiveView → Bool
awaits n c None = false
awaits n c (Some live) = (live.number == n) && is_open_at (slice_get live.questions c)

abbrev pub with_covered : ℕ → LiveView → LiveView
with_covered c live = record live { questions = with_answer By_covered c live.questions }

-- what an initiator collects, once it heard that a question is covered; nothing changes where no answer is missing
abbrev pub covered_live : ℕ → ℕ → Option LiveView → Option LiveView
covered_live n c live = if awaits n c live then option_map (with_covered c) live else live

abbrev pub hearing_covered : ℕ → ℕ → RunningView → RunningView
hearing_covered n c running = collecting (covered_live n c running.live) running

-- ---- a node took part

-- A need of its image is asked for, unless it is of a channel of the node that collects, or was asked for before.
abbrev pub needs_no_question : Network → ℕ → Need → List (Option QuestionView) → Bool
needs_no_question net home need questions =
    (producer_node net need.channel == home) || was_asked need.channel questions

abbrev pub new_question : Need → Option QuestionView
new_question need = Some (record { count = need.count; answer = Awaited })

abbrev pub with_need : Network → ℕ → Need → List (Option QuestionView) → List (Option QuestionView)
with_need net home need questions =
    if needs_no_question net home need questions then questions
    else slice_set questions need.channel (new_question need)

abbrev pub with_needs : Network → ℕ → List Need → List (Option QuestionView) → List (Option QuestionView)
with_needs net home [] questions = questions
with_needs net home (need ∷ needs) questions = with_needs net home needs (with_need net home need questions)

-- the questions that this adds, in the order of the needs
abbrev pub new_ask : Network → ℕ → ℕ → Need → List (Option QuestionView) → Option Packet
new_ask net home number need questions =
    if needs_no_question net home need questions then None
    else Some (ask_on net home number need.channel need.count)

abbrev pub new_asks : Network → ℕ → ℕ → List Need → List (Option QuestionView) → List Packet
new_asks net home number [] questions = []
new_asks net home number (need ∷ needs) questions =
    in_front (new_ask net home number need questions)
    (new_asks net home number needs (with_need net home need questions))

-- the node is behind those that took part before, unless it is one of them
abbrev pub with_taker : ℕ → List ℕ → List ℕ
with_taker p takers = if has_node p takers then takers else takers ++ p ∷ []

abbrev pub joined_live : Network → ℕ → ℕ → ℕ → List Need → LiveView → LiveView
joined_live net home p c needs live =
    record live {
      questions = with_needs net home needs (with_answer By_took c live.questions);
      takers = with_taker p live.takers;
    }

-- a need of a channel of the node's own is met by the image that it took
abbrev pub is_met : Network → ℕ → Tentative → Need → Bool
is_met net home held need =
    not (producer_node net need.channel == home) || nat_le need.count (sent_of held.image need.channel)

abbrev pub are_met : Network → ℕ → List Need → Option Tentative → Bool
are_met net home needs None = false
are_met net home needs (Some held) = list_all (is_met net home held) needs

-- What is made of it: nothing, where it isn't about the live checkpoint or wasn't asked; the node takes part; or the
-- checkpoint is given up, since the node needs more of this one than its own image has put.
pub data TookAnswer : Type 0 where
  Ignores : TookAnswer
  Joins : TookAnswer
  GivesUp : TookAnswer

-- what an initiator makes of the word of a node that took part: it counts it in, gives the checkpoint up where the
-- node's needs can't be met, or ignores what isn't of the checkpoint for which it collects answers
abbrev pub answer_to_took : Network → ℕ → ℕ → ℕ → List Need → RecordView → Option LiveView → TookAnswer
answer_to_took net home n c needs kept None = Ignores
answer_to_took net home n c needs kept (Some live) =
    if (live.number == n) && (was_asked c live.questions && holds home n kept.tentative)
    then (if are_met net home needs kept.tentative then Joins else GivesUp) else Ignores

abbrev pub joining : Network → ℕ → ℕ → ℕ → List Need → RunningView → RunningView
joining net home p c needs running = collecting (option_map (joined_live net home p c needs) running.live) running

abbrev pub joined_asks : Network → ℕ → ℕ → List Need → Option LiveView → List Packet
joined_asks net home c needs None = []
joined_asks net home c needs (Some live) =
    new_asks net home live.number needs (with_answer By_took c live.questions)

-- the tentative image is dropped, and no more answers are collected
abbrev pub given_up : NodeView → NodeView
given_up node = with_kept (without_tentative node.kept) (on_running (collecting None) node)

-- what becomes of an initiator that gives up the checkpoint for which it collects answers
abbrev pub give_up_prospect : NodeView → Prospect
give_up_prospect node = putting false (given_up node)

abbrev pub took_by : Network → ℕ → ℕ → ℕ → List Need → TookAnswer → NodeView → Prospect
took_by net home p c needs Ignores node = becoming node
took_by net home p c needs Joins node =
    Planned (record {
      node = on_running (joining net home p c needs) node;
      puts = false;
      grows = false;
      packets = joined_asks net home c needs (live_in node.mode);
      refused = [];
    })
took_by net home p c needs GivesUp node = give_up_prospect node

-- what becomes of an initiator to which node p says that it took part, where so many items of channel c had been
-- asked for
abbrev pub took_prospect : Network → ℕ → ℕ → ℕ → ℕ → List Need → NodeView → Prospect
took_prospect net home p n c needs node =
    took_by net home p c needs (answer_to_took net home n c needs node.kept (live_in node.mode)) node

-- ---- a node took no part

abbrev pub loses : ℕ → ℕ → NodeView → Bool
loses home n node = is_live n (live_in node.mode) && holds home n node.kept.tentative

-- a refusal ends the live checkpoint
abbrev pub refused_prospect : ℕ → ℕ → NodeView → Prospect
refused_prospect home n node = if loses home n node then give_up_prospect node else becoming node
