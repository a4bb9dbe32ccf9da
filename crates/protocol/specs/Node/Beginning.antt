-- A node begins a checkpoint, and asks those whose items it needs.
use Rattle.std.specs.Prelude.{ℕ, suc, ◌+◌, nat_lt, Bool, true, false, ◌&&◌, List, [], ◌∷◌, length, Option, Some, None}
use Rattle.datagram.specs.declared.packet.Body.TheVariants.{Ask}
use Rattle.datagram.specs.declared.packet.Packet.{Packet}
use Rattle.ckpt_codec.specs.Common.{Network, MAX_COUNT, ImageView, highest_seen, RecordView, MAX_DECISIONS}
use Rattle.recovery_line.specs.Nodes.{Answer, Awaited, By_took, By_covered}
use Rattle.protocol.specs.Node.Needs.{questions_of}
use Rattle.protocol.specs.Node.Addresses.{producer_node}
use Rattle.protocol.specs.Node.LiveView.{QuestionView, LiveView}
use Rattle.protocol.specs.Node.Modes.{is_none, is_running, with_kept}
use Rattle.protocol.specs.Node.NodeView.{NodeView, ModeView, Down, InDoubt, Runs, RunningView, on_running}
use Rattle.protocol.specs.Node.Plans.{Prospect, Planned, if_due, unless_spent}
use Rattle.protocol.specs.Node.Starting.{with_own_now}

-- ---- what a node collects

abbrev pub live_in : ModeView → Option LiveView
live_in Down = None
live_in InDoubt = None
live_in (Runs running) = running.live

abbrev pub collecting : Option LiveView → RunningView → RunningView
collecting live running = record running { live = live }

-- the checkpoint under the node's next number, of which nobody has answered yet
abbrev pub live_begun : Network → ℕ → RecordView → ImageView → LiveView
live_begun net home kept image =
    record {
      number = highest_seen home kept + 1;
      questions = questions_of net home kept.permanent image;
      takers = [];
    }

-- ---- unanswered questions

-- a packet, if there is one, in front of others
abbrev pub in_front : {A : Type 0} → Option A → List A → List A
in_front None others = others
in_front (Some packet) others = packet ∷ others

abbrev pub if_awaited : Answer → Packet → Option Packet
if_awaited Awaited packet = Some packet
if_awaited By_took packet = None
if_awaited By_covered packet = None

-- whether the node that puts on a channel keeps so many items for good
abbrev pub ask_on : Network → ℕ → ℕ → ℕ → ℕ → Packet
ask_on net home number c count = record { from = home; to = producer_node net c; body = Ask number c count }

abbrev pub open_question : Network → ℕ → ℕ → ℕ → Option QuestionView → Option Packet
open_question net home number c None = None
open_question net home number c (Some question) =
    if_awaited question.answer (ask_on net home number c question.count)

-- those among these questions that aren't answered, of which the first is of this channel
abbrev pub open_questions : Network → ℕ → ℕ → ℕ → List (Option QuestionView) → List Packet
open_questions net home number c [] = []
open_questions net home number c (question ∷ questions) =
    in_front (open_question net home number c question) (open_questions net home number (suc c) questions)

abbrev pub live_asks : Network → ℕ → Option LiveView → List Packet
live_asks net home None = []
live_asks net home (Some live) = open_questions net home live.number 0 live.questions

-- ---- the event

-- a node may begin a checkpoint: it runs, holds no tentative image, and fewer decisions of its own are unsettled than
-- a record has room for
abbrev pub may_start : NodeView → Bool
may_start node =
    is_running node.mode && (is_none node.kept.tentative && nat_lt (length node.kept.decisions) MAX_DECISIONS)

abbrev pub beginning : Network → ℕ → RecordView → RunningView → RunningView
beginning net home kept running = collecting (Some (live_begun net home kept running.current)) running

-- a node that has begun a checkpoint: it holds a tentative image of its own, for which it collects answers
abbrev pub begun : Network → ℕ → NodeView → NodeView
begun net home node = with_kept (with_own_now home node) (on_running (beginning net home node.kept) node)

-- what a `Start` comes to: the node puts its current image as a tentative one, and asks for what that needs
abbrev pub start_prospect : Network → ℕ → NodeView → Prospect
start_prospect net home node =
    if_due (may_start node)
    (unless_spent false (nat_lt (highest_seen home node.kept) MAX_COUNT)
    (Planned (record {
      node = begun net home node;
      puts = true;
      grows = true;
      packets = live_asks net home (live_in (begun net home node).mode);
      refused = [];
    })))
