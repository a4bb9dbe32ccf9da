-- What a node sends in its turn, where checkpoints are coordinated.
use Rattle.std.specs.Prelude.{◌==◌, ◌++◌, ℕ, not, Bool, true, false, if◌then◌else◌, List, [], ◌∷◌, map, Option, Some}
use Rattle.std.specs.Prelude.{None}
use Rattle.std.specs.List.{flat_map}
use Rattle.datagram.specs.declared.packet.Body.TheVariants.{Kept, Query, Undone}
use Rattle.datagram.specs.declared.packet.Packet.{Packet}
use Rattle.ckpt_codec.specs.Common.{Network, DecisionView, received_of, ImageView, RecordView, Tentative}
use Rattle.protocol.specs.Node.Beginning.{live_asks}
use Rattle.protocol.specs.Node.Verdicts.{commit_to}
use Rattle.protocol.specs.Node.Addresses.{producer_node, consumer_node}
use Rattle.protocol.specs.Node.Layout.{incoming_on}
use Rattle.protocol.specs.Node.Modes.{is_none, is_down}
use Rattle.protocol.specs.Node.NodeView.{NodeView, ModeView, Down, InDoubt, Runs}
use Rattle.protocol.specs.Node.Plans.{Prospect, if_due, telling}
use Rattle.protocol.specs.Node.Sending.{inbox_packets, outbox_packets}
use Rattle.protocol.specs.declared.links.Outbox.{Outbox}

-- to each node that a decision names
abbrev pub decision_packets : ℕ → DecisionView → List Packet
decision_packets home decision = map (commit_to home decision.number) decision.participants

abbrev pub packet_if : Bool → Packet → List Packet
packet_if false packet = []
packet_if true packet = packet ∷ []

-- the question for the verdict, where another's image is held
abbrev pub query_packets : ℕ → Option Tentative → List Packet
query_packets home None = []
query_packets home (Some held) =
    packet_if (not (held.initiator == home))
    (record { from = home; to = held.initiator; body = Query held.number })

-- both, of a node with this record
abbrev pub verdicts_told : ℕ → RecordView → List Packet
verdicts_told home kept = flat_map (decision_packets home) kept.decisions ++ query_packets home kept.tentative

-- how much of a channel from another node is kept for good
abbrev pub kept_packet : Network → ℕ → ImageView → ℕ → Packet
kept_packet net home permanent c =
    record { from = home; to = producer_node net c; body = Kept c (received_of permanent c) }

-- of a channel to another node: how much the image has put there that was restored in this epoch
abbrev pub undone_packet : Network → ℕ → ℕ → Outbox → Packet
undone_packet net home epoch outbox =
    record {
      from = home;
      to = consumer_node net outbox.channel;
      body = Undone outbox.channel epoch outbox.restored;
    }

-- a node that never went down or back has nothing to say of that
abbrev pub undone_packets : Network → ℕ → ℕ → List Outbox → List Packet
undone_packets net home epoch outboxes =
    if epoch == 0 then [] else map (undone_packet net home epoch) outboxes

-- What a node sends in its turn. One that runs says of each channel from another node what comes next there and what
-- it keeps for good; then of each channel to another node what it restored; then what it still asks, what it decided,
-- and what it waits for; and then it sends items, unless it holds an image. One in doubt says what it keeps, what it
-- decided and what it waits for.
abbrev pub turn_packets : Network → ℕ → RecordView → ModeView → List Packet
turn_packets net home kept Down = []
turn_packets net home kept InDoubt =
    map (kept_packet net home kept.permanent) (incoming_on net home) ++ verdicts_told home kept
turn_packets net home kept (Runs running) =
    flat_map (inbox_packets net home kept.permanent) running.inboxes
    ++ (undone_packets net home kept.epoch running.outboxes
    ++ (live_asks net home running.live ++ (verdicts_told home kept
    ++ (if is_none kept.tentative then flat_map (outbox_packets net home running.current) running.outboxes else []))))

-- what a `Send` comes to: a node that is up sends the packets of its turn
abbrev pub send_prospect : Network → ℕ → NodeView → Prospect
send_prospect net home node =
    if_due (not (is_down node.mode)) (telling (turn_packets net home node.kept node.mode) node)
