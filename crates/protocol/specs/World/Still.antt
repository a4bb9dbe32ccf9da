-- A world that stands still, and would go on if channels had more room.
use Rattle.std.specs.Prelude.{◌==◌, ℕ, nat_le, Bool, false, ◌&&◌, not, if◌then◌else◌, ℤ, List, length, Option}
use Rattle.std.specs.Prelude.{Some, None, is_some, slice_get}
use Rattle.std.specs.List.{list_all, list_any}
use Rattle.ckpt_codec.specs.Common.{Network, received_of, ImageView}
use Rattle.record.specs.Common.{base_of}
use Rattle.ckpt_codec.specs.declared.lengths.TheConstants.{MAX_RETAINED_ITEMS}
use Rattle.protocol.specs.Node.Addresses.{consumer_node, producer_node}
use Rattle.protocol.specs.Node.Choosing.{node_job}
use Rattle.protocol.specs.Node.Layout.{consumer_of}
use Rattle.protocol.specs.Node.Modes.{is_none}
use Rattle.protocol.specs.Node.NodeView.{RunningNode, running_of}
use Rattle.protocol.specs.Node.Popping.{has_place}
use Rattle.protocol.specs.Node.Sharing.{even_rooms}
use Rattle.protocol.specs.World.Choice.{has_more}
use Rattle.protocol.specs.World.Invariant.{outputs_of}
use Rattle.protocol.specs.World.OutputView.{OutputView}
use Rattle.protocol.specs.World.Quiet.{have_all_left, sent_at}
use Rattle.protocol.specs.World.StationView.{StationView}
use Rattle.protocol.specs.World.Steps.{WorldView}
use Rattle.protocol.specs.declared.links.Inbox.{Inbox}
use Rattle.protocol.specs.declared.links.Outbox.{Outbox}

-- ---- what is under way between nodes

-- Nothing more comes to an inbox into which so many items were put by now: all of them have come, or it is full.
abbrev pub has_come : ℕ → Inbox → Bool
has_come sent inbox = if has_place inbox.log then inbox.window.next == sent else nat_le inbox.window.next sent

abbrev pub has_come_from : Network → List StationView → Inbox → Bool
has_come_from net stations inbox =
    has_come (sent_at inbox.channel (slice_get stations (producer_node net inbox.channel))) inbox

-- how many items of a channel a node keeps for good: none, where it doesn't run
abbrev pub kept_by : ℕ → Option RunningNode → ℕ
kept_by channel None = 0
kept_by channel (Some node) = received_of node.kept.permanent channel

abbrev pub kept_at : ℕ → Option StationView → ℕ
kept_at channel None = 0
kept_at channel (Some station) = kept_by channel (running_of station.node)

abbrev pub kept_from : List StationView → ℕ → Option ℕ → ℕ
kept_from stations channel None = 0
kept_from stations channel (Some node) = kept_at channel (slice_get stations node)

-- how many items of a channel the node that gets them keeps for good: none, where it doesn't run, or no process gets them
abbrev pub kept_for_good : Network → List StationView → ℕ → ℕ
kept_for_good net stations channel = kept_from stations channel (consumer_of net (slice_get net.channels channel))

-- the log of a channel to another node has let go of all that is kept for good there
abbrev pub has_let_go : Network → List StationView → ImageView → Outbox → Bool
has_let_go net stations image outbox =
    nat_le (kept_at outbox.channel (slice_get stations (consumer_node net outbox.channel)))
    (base_of image outbox.channel)

-- ---- nodes

-- A node has nothing to keep or to confirm: it holds no image, all that it decided is settled, no job is out, and it has
-- got and put no more than its permanent image counts.
abbrev pub keeps_all : RunningNode → Bool
keeps_all node =
    is_none node.kept.tentative && (length node.kept.decisions == 0 && (is_none node.out && not (has_more (Some node))))

-- Nothing of a node is on its way: it has nothing to keep or to confirm, each outlet has all that was put, and
-- between the node and the others nothing more comes or is let go of.
abbrev pub is_settled : Network → List StationView → RunningNode → List OutputView → Bool
is_settled net stations node outputs =
    keeps_all node && (have_all_left node.current outputs && (list_all (has_come_from net stations) node.inboxes &&
    list_all (has_let_go net stations node.current) node.outboxes))

abbrev pub is_settled_at : Network → List StationView → Option RunningNode → List OutputView → Bool
is_settled_at net stations None outputs = false
is_settled_at net stations (Some node) outputs = is_settled net stations node outputs

-- a station's node runs, all of it is settled, and it can grant no job where channels have these rooms
abbrev pub is_still : Network → List (List ℤ) → List ℕ → List StationView → StationView → Bool
is_still net inputs rooms stations station =
    is_settled_at net stations (running_of station.node) (outputs_of station.outlets) && not
    (is_some (node_job net inputs rooms station.node))

-- a station's node could grant a job where each channel had as much room as a record has
abbrev pub wants_room : Network → List (List ℤ) → StationView → Bool
wants_room net inputs station = is_some (node_job net inputs (even_rooms MAX_RETAINED_ITEMS) station.node)

-- ---- all of them

-- A world stands still for want of room: so do all its nodes, and one of them could go on with more.
abbrev pub stands_still : WorldView → Bool
stands_still world =
    list_all (is_still world.net world.inputs world.rooms world.stations) world.stations &&
    list_any (wants_room world.net world.inputs) world.stations
