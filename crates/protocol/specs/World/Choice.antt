-- Which event is next for a node: the first one of a list that is due.
use Rattle.std.specs.Prelude.{◌==◌, ℕ, ◌%◌, nat_le, nat_lt, Bool, false, ◌&&◌, ◌||◌, not, if◌then◌else◌, List, [], ◌∷◌}
use Rattle.std.specs.Prelude.{length, Option, Some, None, is_some, option_map, slice_get, ℤ}
use Rattle.ckpt_codec.specs.Common.{Network, ImageView, received_of, sent_of, SavedEnd}
use Rattle.protocol.specs.Node.Choosing.{node_job}
use Rattle.protocol.specs.Node.NodeView.{RunningNode, running_of}
use Rattle.protocol.specs.Node.Beginning.{live_in, may_start}
use Rattle.protocol.specs.Node.Verdicts.{may_decide}
use Rattle.protocol.specs.Node.Modes.{is_none, is_down}
use Rattle.std.specs.List.{position_from}
use Rattle.wire.specs.declared.queue.Flight.{Flight}
use Rattle.wire.specs.Queue.{is_due}
use Rattle.wire.specs.Traffic.{Traffic, flights_to}
use Rattle.protocol.specs.World.Turns.{turns_of}
use Rattle.protocol.specs.World.StationView.{StationView}
use Rattle.protocol.specs.World.Steps.{WorldView, next_release}
use Rattle.protocol.specs.World.EventView.{EventView, ByNode, Release}
use Rattle.protocol.specs.declared.event.Deed.TheVariants as event
use Rattle.protocol.specs.declared.limits.TheConstants.{MAX_GRANTS}

-- a count of one of these channels is above what it is in an earlier image
abbrev pub counts_rose : ImageView → ImageView → List SavedEnd → Bool
counts_rose now before [] = false
counts_rose now before (saved ∷ ends) =
    (nat_lt (received_of before saved.channel) (received_of now saved.channel) || nat_lt (sent_of before saved.channel)
    (sent_of now saved.channel)) || counts_rose now before ends

-- a count of what a node has now is above what it is in its permanent image
abbrev pub has_more : Option RunningNode → Bool
has_more None = false
has_more (Some node) = counts_rose node.current node.kept.permanent node.current.ends

-- the turn to begin a checkpoint goes round: in each round it is one node's
abbrev pub has_turn : ℕ → ℕ → ℕ → Bool
has_turn nodes round number = nat_lt 0 nodes && (round % nodes == number)

-- it is this node's turn to begin a checkpoint, it hasn't yet in this round, and has something new to keep
abbrev pub wants_checkpoint : ℕ → ℕ → StationView → Bool
wants_checkpoint nodes round station =
    has_turn nodes round station.number &&
    (not (turns_of round station.turns).started && (may_start station.node && has_more (running_of station.node)))

-- it has sent in this round; what it sent while it held a tentative image doesn't count afterwards
abbrev pub has_sent : ℕ → StationView → Bool
has_sent round station =
    (turns_of round station.turns).sent && not
    ((turns_of round station.turns).sent_holding && is_none station.node.kept.tentative)

-- it is down, and may be recovered by now
abbrev pub may_recover : ℕ → StationView → Bool
may_recover round station = is_down station.node.mode && nat_le station.node.restart round

-- the place of the first packet that is due to a node that is up
abbrev pub due_place : Traffic → ℕ → StationView → Option ℕ
due_place traffic round station =
    if is_down station.node.mode then None else position_from (is_due round) 0 (flights_to traffic station.number)

abbrev pub deliver_or : ℕ → Option ℕ → EventView → EventView
deliver_or number None other = other
deliver_or number (Some place) other = ByNode number (event.Deliver place)

-- the first that is due where no packet is: an item leaves, a job is granted (64 at most a round), a checkpoint is
-- decided or begun, the node sends, or its turn passes
abbrev pub own_choice : Network → List (List ℤ) → List ℕ → ℕ → ℕ → StationView → EventView
own_choice net inputs rooms nodes round station =
    if is_some (next_release round station) then Release station.number
    else (if nat_lt (turns_of round station.turns).granted MAX_GRANTS && is_some (node_job net inputs rooms station.node)
    then ByNode station.number event.Grant
    else (if may_decide station.number station.node.kept (live_in station.node.mode) then ByNode station.number
    event.Decide
    else (if wants_checkpoint nodes round station then ByNode station.number event.Start
    else (if not (is_down station.node.mode) && not (has_sent round station) then ByNode station.number event.Send
    else ByNode station.number event.Idle))))

-- the first that is due: the node is recovered, a packet comes to it, or one of those
abbrev pub station_choice : Network → List (List ℤ) → List ℕ → Traffic → ℕ → ℕ → StationView → EventView
station_choice net inputs rooms traffic nodes round station =
    if may_recover round station then ByNode station.number event.Recover
    else deliver_or station.number (due_place traffic round station) (own_choice net inputs rooms nodes round station)

abbrev pub choice_of : WorldView → ℕ → Option StationView → EventView
choice_of world node None = ByNode node event.Idle
choice_of world node (Some station) =
    station_choice world.net world.inputs world.rooms world.traffic (length world.stations) world.round station

-- the event that is next for this node
abbrev pub choice : WorldView → ℕ → EventView
choice world node = choice_of world node (slice_get world.stations node)

-- the bytes of the packet at a place of those in flight to a node of the world
abbrev pub flying_to : WorldView → ℕ → ℕ → Option (List ℕ)
flying_to world node place =
    if nat_lt node (length world.stations) then option_map (λ (flight : Flight). flight.packet)
    (slice_get (flights_to world.traffic node) place) else None
