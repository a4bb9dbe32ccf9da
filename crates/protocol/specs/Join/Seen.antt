-- How stations and packets are seen by the abstract machine of recovery lines.
use Rattle.std.specs.Prelude.{◌==◌, ℕ, suc, if◌then◌else◌, List, [], ◌∷◌, Option, Some, None, option_map, slice_get}
use Rattle.datagram.specs.Reading.{whole_at}
use Rattle.datagram.specs.declared.packet.Body.{Body}
use Rattle.datagram.specs.declared.packet.Body.TheVariants as says
use Rattle.datagram.specs.declared.packet.Need.{Need}
use Rattle.datagram.specs.declared.packet.Packet.{Packet as Datagram}
use Rattle.recovery_line.specs.Images.{blank}
use Rattle.recovery_line.specs.Nodes.{Answer, Live, Mode, Down, In_doubt, Running, Node}
use Rattle.recovery_line.specs.Observers.{has_node, image_seen, record_seen}
use Rattle.recovery_line.specs.Packets.{Packet, Kept, Ask, Took, Covered, Query, Commit, Ended, Settled}
use Rattle.recovery_line.specs.Worlds.{World}
use Rattle.protocol.specs.Node.Beginning.{in_front}
use Rattle.protocol.specs.Node.LiveView.{QuestionView, LiveView}
use Rattle.protocol.specs.Node.NodeView.{ModeView}
use Rattle.protocol.specs.Node.NodeView as view
use Rattle.protocol.specs.World.RecoveryLine.{records_of, records_seen, outlets_seen}
use Rattle.protocol.specs.World.StationView.{StationView}

-- ---- what a node collects

abbrev pub question_seen : Option (Option QuestionView) → Option (ℕ × Answer)
question_seen None = None
question_seen (Some None) = None
question_seen (Some (Some question)) = Some (question.count, question.answer)

-- by channel what was asked of it, and how that was answered
abbrev pub questions_seen : List (Option QuestionView) → ℕ → Option (ℕ × Answer)
questions_seen questions c = question_seen (slice_get questions c)

-- how many stand before this node in a list
abbrev pub nodes_before : List ℕ → ℕ → ℕ
nodes_before [] p = 0
nodes_before (q ∷ nodes) p = if q == p then 0 else suc (nodes_before nodes p)

-- what an initiator collects, as the abstract machine sees it
abbrev pub live_seen : LiveView → Live
live_seen live =
    record {
      number = live.number;
      asks = questions_seen live.questions;
      takes = λ p. has_node p live.takers;
      place = nodes_before live.takers;
    }

-- ---- nodes

abbrev pub mode_seen : ModeView → Mode
mode_seen view.Down = Down
mode_seen view.InDoubt = In_doubt
mode_seen (view.Runs running) = Running (image_seen running.current) (option_map live_seen running.live)

abbrev pub mode_or_new : Option StationView → Mode
mode_or_new None = Running blank None
mode_or_new (Some station) = mode_seen station.node.mode

-- the mode of each node, by its number; that of a new one where there is no such node
abbrev pub modes_seen : List StationView → ℕ → Mode
modes_seen stations k = mode_or_new (slice_get stations k)

-- the node of a station, where so many items have left by each channel
abbrev pub node_seen : StationView → (ℕ → ℕ) → Node
node_seen station left =
    record { disk = record_seen station.node.kept; mode = mode_seen station.node.mode; outlets = left }

-- ---- packets

-- how many items of a channel are needed, if any
abbrev pub need_of : List Need → ℕ → Option ℕ
need_of [] c = None
need_of (need ∷ needs) c = if need.channel == c then Some need.count else need_of needs c

-- What is said of checkpoints by what one node tells another. Items and what is acknowledged say nothing of them, nor
-- do refusals, since nobody has to believe one, nor what is told of roll-backs.
abbrev pub body_seen : ℕ → ℕ → Body → Option Packet
body_seen from to (says.Data channel position item) = None
body_seen from to (says.Ack channel epoch next) = None
body_seen from to (says.Kept channel count) = Some (Kept channel count)
body_seen from to (says.Ask number channel count) = Some (Ask from number channel count)
body_seen from to (says.Took number channel count needs) = Some (Took to number channel count (need_of needs))
body_seen from to (says.Covered number channel count) = Some (Covered to number channel count)
body_seen from to (says.Refused number channel reason) = None
body_seen from to (says.Query number) = Some (Query from to number)
body_seen from to (says.Commit number) = Some (Commit from to number)
body_seen from to (says.Ended number) = Some (Ended from to number)
body_seen from to (says.Settled number) = Some (Settled from to number)
body_seen from to (says.Undone channel epoch sent) = None

-- a packet as the abstract machine sees it, none where that knows no such packet
abbrev pub packet_seen : Datagram → Option Packet
packet_seen packet = body_seen packet.from packet.to packet.body

-- what bytes say of checkpoints, if they spell a packet that says something of them
abbrev pub spelled_seen : Option Datagram → Option Packet
spelled_seen None = None
spelled_seen (Some packet) = packet_seen packet

abbrev pub bytes_seen : List ℕ → Option Packet
bytes_seen bytes = spelled_seen (whole_at bytes)

abbrev pub all_seen : List Datagram → List Packet
all_seen [] = []
all_seen (packet ∷ packets) = in_front (packet_seen packet) (all_seen packets)

-- ---- a world

-- these stations as a world of the abstract machine, where all this has ever been sent
abbrev pub world_seen : List StationView → List Packet → World
world_seen stations sent =
    record {
      records = records_seen (records_of stations);
      modes = modes_seen stations;
      outlets = outlets_seen stations;
      flight = slice_get sent;
    }
