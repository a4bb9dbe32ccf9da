-- An event of a world, as a relation of what was before, what is answered, and what is after.
--
-- A deed of a node has a plan (`plan_of`): the one place in which it is said what a deed makes of its station, what is
-- answered, and what is in flight afterwards. A turn that comes back and an item that leaves are relations of their
-- own, since a job's turn and an outlet are free to come out as they do. An event that can't happen is answered by
-- `NotDue` and changes nothing, and only such an event is. Free besides are the failures of devices alone: which call
-- failed, and whether the record was put all the same.
use Rattle.std.specs.Prelude.{◌≡◌, ◌⊎◌, ◌==◌, ℕ, ◌+◌, nat_lt, Bool, true, false, ◌&&◌, ◌||◌, not, if◌then◌else◌, ℤ}
use Rattle.std.specs.Prelude.{List, [], ◌∷◌, length, Option, Some, None, slice_get, slice_set, All, map, is_some}
use Rattle.ckpt_codec.specs.Common.{Network, Channel, LogState, sent_of, with_epoch, RecordView}
use Rattle.datagram.specs.PacketText.{IsPacket, packet_text}
use Rattle.datagram.specs.declared.packet.Packet.{Packet}
use Rattle.wire.specs.Queue.{is_due}
use Rattle.wire.specs.Traffic.{Traffic, all_sent, flights_to, traffic_armed, traffic_delayed, traffic_repeated, traffic_without}
use Rattle.wire.specs.declared.queue.Flight.{Flight}
use Rattle.wire.specs.declared.sending.Sending.{Sending}
use Rattle.protocol.specs.Node.ArmedRestarts.{restart_after, round_later, with_armed}
use Rattle.protocol.specs.Node.Choosing.{node_job, grant_prospect}
use Rattle.protocol.specs.Node.Beginning.{start_prospect}
use Rattle.protocol.specs.Node.Delivering.{packet_for, delivery_of}
use Rattle.protocol.specs.Node.Hearing.{deliver_prospect}
use Rattle.protocol.specs.Node.Installing.{IsInstall}
use Rattle.protocol.specs.Node.JobView.{JobView}
use Rattle.protocol.specs.Node.Modes.{is_none, is_running, is_down, next_number}
use Rattle.protocol.specs.Node.NodeView.{NodeView}
use Rattle.protocol.specs.Node.Plans.{Prospect, Undue, becoming, IsMade, IsPut, room_for, packets_by}
use Rattle.protocol.specs.Node.Recovering.{crash_prospect, recover_prospect, restored_mode}
use Rattle.protocol.specs.Node.Telling.{send_prospect}
use Rattle.protocol.specs.Node.Trimming.{current_log, trimmed_node, TookNext}
use Rattle.protocol.specs.Node.Verdicts.{decide_prospect}
use Rattle.protocol.specs.declared.outcome.Outcome.{Outcome}
use Rattle.protocol.specs.declared.outcome.Outcome.TheVariants as outcome
use Rattle.protocol.specs.declared.outcome.Refusal.TheVariants.{TooLarge}
use Rattle.protocol.specs.declared.round_turns.RoundTurns.{RoundTurns}
use Rattle.protocol.specs.World.DoneView.{DoneView, IsTurnOfJob}
use Rattle.protocol.specs.World.EventView.{EventView, ByNode, ByNetwork, Install, Release, event_node}
use Rattle.protocol.specs.declared.event.Deed.{Deed}
use Rattle.protocol.specs.declared.event.NetworkAct.{NetworkAct}
use Rattle.protocol.specs.declared.event.Deed.TheVariants as event
use Rattle.protocol.specs.declared.event.NetworkAct.TheVariants as act_is
use Rattle.protocol.specs.World.Replies.{act_reply, answer_by, back_reply, delivery_reply, grant_reply, has_happened}
use Rattle.protocol.specs.World.Replies.{install_reply}
use Rattle.protocol.specs.World.ReplyView.{ReplyView, leaving}
use Rattle.protocol.specs.declared.reply.Reply.TheVariants as reply
use Rattle.protocol.specs.World.StationView.{OutletView, StationView}
use Rattle.protocol.specs.World.Turns.{turns_of, count_grant, count_start, count_send, count_idle}

-- ---- what an event finds

-- a network that runs on these inputs: its stations by node number, what is in flight between them, the round, and the
-- room of each channel by its number, which is how many items a job may leave its log with
pub record WorldView : Type 0 where
  pub net : Network
  pub inputs : List (List ℤ)
  pub stations : List StationView
  pub traffic : Traffic
  pub round : ℕ
  pub rooms : List ℕ

-- the same world, where its channels have these rooms
abbrev pub with_rooms : List ℕ → WorldView → WorldView
with_rooms rooms world = record world { rooms = rooms }

-- what a station's event finds around it: the network and its inputs, what is in flight, the round, and the room of each
-- channel
pub record Setting : Type 0 where
  pub net : Network
  pub inputs : List (List ℤ)
  pub traffic : Traffic
  pub round : ℕ
  pub rooms : List ℕ

abbrev pub setting_in : Network → List (List ℤ) → Traffic → ℕ → List ℕ → Setting
setting_in net inputs traffic round rooms =
    record { net = net; inputs = inputs; traffic = traffic; round = round; rooms = rooms }

abbrev pub setting_of : WorldView → Setting
setting_of world = setting_in world.net world.inputs world.traffic world.round world.rooms

-- the packet at a place of those in flight to a node
abbrev pub flight_at : Setting → ℕ → ℕ → Option Flight
flight_at setting k place = slice_get (flights_to setting.traffic k) place

-- its bytes, if there is one and it is due
abbrev pub bytes_when : Bool → List ℕ → Option (List ℕ)
bytes_when false bytes = None
bytes_when true bytes = Some bytes

abbrev pub due_bytes : ℕ → Option Flight → Option (List ℕ)
due_bytes round None = None
due_bytes round (Some flight) = bytes_when (is_due round flight) flight.packet

-- ---- deeds

-- What a deed makes of its station: what it comes to at the node; what is remembered of the round then; what is
-- answered where it is made, and where its record is too large; and the place of the packet that came, if one did, and
-- is gone.
pub record StationPlan : Type 0 where
  pub prospect : Prospect
  pub turns : RoundTurns
  pub answer : ReplyView
  pub declined : ReplyView
  pub came : Option ℕ

-- a deed of which nothing is remembered, and for which no packet came
abbrev pub plainly : Prospect → ReplyView → StationView → StationPlan
plainly prospect answer station =
    record {
      prospect = prospect;
      turns = station.turns;
      answer = answer;
      declined = reply.Refused TooLarge;
      came = None;
    }

-- one of which this is remembered
abbrev pub noting : RoundTurns → Prospect → ReplyView → StationPlan
noting turns prospect answer =
    record { prospect = prospect; turns = turns; answer = answer; declined = reply.Refused TooLarge; came = None }

-- These bytes come, of the packet at a place. A node that takes no part in a checkpoint since its record would be too
-- large has heard the question all the same.
abbrev pub deliver_plan : Network → ℕ → Option (List ℕ) → StationView → StationPlan
deliver_plan net place None station = plainly Undue reply.NotDue station
deliver_plan net place (Some bytes) station =
    record {
      prospect = deliver_prospect net station.number (packet_for net station.number bytes) station.node;
      turns = station.turns;
      answer = delivery_reply (delivery_of false (packet_for net station.number bytes));
      declined = reply.Delivered;
      came = Some place;
    }

abbrev pub grant_plan : Option JobView → ℕ → StationView → StationPlan
grant_plan job round station =
    noting (count_grant (turns_of round station.turns)) (grant_prospect job station.node) (grant_reply job)

abbrev pub send_plan : Network → ℕ → StationView → StationPlan
send_plan net round station =
    noting (count_send (not (is_none station.node.kept.tentative)) (turns_of round station.turns))
    (send_prospect net station.number station.node) reply.Sent

abbrev pub start_plan : Network → ℕ → StationView → StationPlan
start_plan net round station =
    noting (count_start (turns_of round station.turns)) (start_prospect net station.number station.node) reply.Started

abbrev pub decide_plan : StationView → StationPlan
decide_plan station = plainly (decide_prospect station.number station.node) reply.Decided station

-- a node crashes, and comes back
abbrev pub crash_plan : ℕ → StationView → StationPlan
crash_plan restart station = plainly (crash_prospect restart station.node) reply.Crashed station

abbrev pub recover_plan : Network → StationView → StationPlan
recover_plan net station =
    plainly (recover_prospect net station.number station.node)
    (back_reply (restored_mode net station.number (with_epoch station.node.kept))) station

-- a fault is armed for this device call, and for how many rounds it is to keep the node down
abbrev pub arm_plan : ℕ → ℕ → StationView → StationPlan
arm_plan call rounds station = plainly (becoming (with_armed call rounds station.node)) reply.Acted station

abbrev pub idle_plan : ℕ → StationView → StationPlan
idle_plan round station = noting (count_idle (turns_of round station.turns)) (becoming station.node) reply.Idled

-- the plan of a deed of node k: the one place where it is said what each deed makes of its station
abbrev pub plan_of : Setting → ℕ → Deed → StationView → StationPlan
plan_of setting k (event.Deliver place) station =
    deliver_plan setting.net place (due_bytes setting.round (flight_at setting k place)) station
plan_of setting k event.Grant station =
    grant_plan (node_job setting.net setting.inputs setting.rooms station.node) setting.round station
plan_of setting k event.Send station = send_plan setting.net setting.round station
plan_of setting k event.Start station = start_plan setting.net setting.round station
plan_of setting k event.Decide station = decide_plan station
plan_of setting k (event.Crash fill rounds) station =
    crash_plan (round_later setting.round rounds) station
plan_of setting k event.Recover station = recover_plan setting.net station
plan_of setting k (event.Arm fault rounds) station = arm_plan fault.call rounds station
plan_of setting k event.Idle station = idle_plan setting.round station

-- the same station with its node so, its device having failed so often, and what is remembered of its round
abbrev pub moved_to : NodeView → ℕ → RoundTurns → StationView → StationView
moved_to node failures turns station =
    record { number = station.number; node = node; failures = failures; outlets = station.outlets; turns = turns }

-- what is remembered of a node's round after a deed came out so: all of it stays where nothing happened
abbrev pub turns_by : RoundTurns → RoundTurns → Outcome → RoundTurns
turns_by noted turns outcome.NotDue = turns
turns_by noted turns outcome.Made = noted
turns_by noted turns (outcome.Refused refusal) = noted
turns_by noted turns outcome.Failed = noted

-- A deed comes out by its plan, in this way, and is answered so. `fits` is what the node's cell has room for, and
-- `call` the device call that failed, where the device did.
pub record IsPlanned (fits : RecordView → Bool) (round : ℕ) (plan : StationPlan) (came : Outcome) (old : StationView)
    (answer : ReplyView) (new : StationView) : Type 0 where
  pub call : ℕ
  pub step : IsMade (restart_after old.node.armed call round) plan.prospect old.node came new.node
  pub put : IsPut (room_for fits plan.prospect) old.failures new.failures came
  pub answers : answer ≡ answer_by plan.answer plan.declined came
  -- what is sent has a spelling
  pub allowed : All IsPacket (packets_by plan.prospect came)
  pub same : new ≡ moved_to new.node new.failures (turns_by plan.turns old.turns came) old

-- ---- turns that come back, and items that leave

-- a turn that comes back is one of its job's own code, and is taken in where its job is the one that is out
pub record IsInstalled (channels : List Channel) (done : DoneView) (old : StationView) (answer : ReplyView)
    (new : StationView) : Type 0 where
  pub turn : ∥ IsTurnOfJob done.job done.after done.taken done.sent ∥₁
  pub applied : Bool
  pub step : IsInstall channels done.job done.after done.taken done.sent old.node applied new.node
  pub answers : answer ≡ install_reply applied
  pub same : new ≡ moved_to new.node old.failures old.turns old

-- an outlet failed in this round
abbrev pub has_failed_in : ℕ → Option ℕ → Bool
has_failed_in round None = false
has_failed_in round (Some failed) = failed == round

-- the permanent image covers an item that an outlet hasn't got, and the outlet didn't fail in this round
abbrev pub is_waiting : RecordView → ℕ → OutletView → Bool
is_waiting kept round outlet =
    not (has_failed_in round outlet.failed) && nat_lt (length outlet.taken) (sent_of kept.permanent outlet.channel)

-- the place of the first outlet with an item to take, the first of the list having this place
abbrev pub first_waiting : RecordView → ℕ → ℕ → List OutletView → Option ℕ
first_waiting kept round place [] = None
first_waiting kept round place (outlet ∷ outlets) =
    if is_waiting kept round outlet then Some place else first_waiting kept round (place + 1) outlets

-- which outlet of a station is next, by its place: the first one that lacks an item which the permanent image covers
-- and hasn't failed in this round, if the node runs
abbrev pub next_release : ℕ → StationView → Option ℕ
next_release round station =
    if is_running station.node.mode then first_waiting station.node.kept round 0 station.outlets else None

-- the outlet was handed the next item of this log: it took it, or failed and took it or didn't
pub record IsHanded (round : ℕ) (log : Option LogState) (outlet : OutletView) (answer : ReplyView)
    (later : OutletView) : Type 0 where
  pub channel : later.channel ≡ outlet.channel
  pub came : ((answer ≡ reply.Released (leaving outlet.channel (length later.taken)))
      × TookNext log outlet.taken later.taken × (length later.taken ≡ length outlet.taken + 1)
      × (later.failed ≡ outlet.failed) × (later.failures ≡ outlet.failures))
      ⊎ ((answer ≡ reply.OutletFailed)
      × ((later.taken ≡ outlet.taken) ⊎ TookNext log outlet.taken later.taken) × (later.failed ≡ Some round)
      × (later.failures ≡ outlet.failures + 1))

-- and the log lets go of what the outlet has
abbrev pub released_to : OutletView → ℕ → OutletView → StationView → StationView
released_to outlet place later station = record {
  number = station.number;
  node = trimmed_node outlet.channel (length later.taken) station.node;
  failures = station.failures;
  outlets = slice_set station.outlets place later;
  turns = station.turns;
}

pub record IsReleaseAt (round place : ℕ) (old : StationView) (answer : ReplyView) (new : StationView) : Type 0 where
  pub outlet : OutletView
  pub later : OutletView
  pub there : slice_get old.outlets place ≡ Some outlet
  pub handed : IsHanded round (current_log outlet.channel old.node.mode) outlet answer later
  pub same : new ≡ released_to outlet place later old

-- an item leaves a station by the outlet that is next; where there is none, nothing happens
abbrev pub IsRelease : ℕ → Option ℕ → StationView → ReplyView → StationView → Type 0
IsRelease round None old answer new = (answer ≡ reply.NotDue) × (new ≡ old)
IsRelease round (Some place) old answer new = IsReleaseAt round place old answer new

-- ---- one station, and all

-- an act on a packet needs one there; for one that is still to be sent nothing is missing
abbrev pub can_act : NetworkAct → Option Flight → Bool
can_act (act_is.ArmPacket from nth change) flight = true
can_act act flight = is_some flight

-- an event of this station, or of the network at it; where it is a deed, `came` is how that comes out
abbrev pub IsStationStep : Setting → (RecordView → Bool) → EventView → Outcome → StationView → ReplyView → StationView
    → Type 0
IsStationStep setting fits (ByNode k deed) came old answer new =
    IsPlanned fits setting.round (plan_of setting k deed old) came old answer new
IsStationStep setting fits (Install done) came old answer new = IsInstalled setting.net.channels done old answer new
IsStationStep setting fits (Release k) came old answer new =
    IsRelease setting.round (next_release setting.round old) old answer new
IsStationStep setting fits (ByNetwork k place act) came old answer new =
    (answer ≡ act_reply (can_act act (flight_at setting k place))) × (new ≡ old)

-- at the station of this place
pub record IsActAt (setting : Setting) (place : ℕ) (fits : RecordView → Bool) (station : StationView)
    (event : EventView) (came : Outcome) (old : List StationView) (answer : ReplyView)
    (new : List StationView) : Type 0 where
  pub later : StationView
  pub step : IsStationStep setting fits event came station answer later
  pub stations : new ≡ slice_set old place later

-- and where there may be none
abbrev pub IsActOf : Setting → ℕ → Option (RecordView → Bool) → Option StationView → EventView → Outcome
    → List StationView → ReplyView → List StationView → Type 0
IsActOf setting place (Some fits) (Some station) event came old answer new =
    IsActAt setting place fits station event came old answer new
IsActOf setting place (Some fits) None event came old answer new = (answer ≡ reply.NotDue) × (new ≡ old)
IsActOf setting place None station event came old answer new = (answer ≡ reply.NotDue) × (new ≡ old)

-- an event at the station of this place; `fits` is, of each station, what its node's cell has room for
abbrev pub IsAct : Setting → ℕ → List (RecordView → Bool) → EventView → Outcome → List StationView → ReplyView
    → List StationView → Type 0
IsAct setting place fits event came old answer new =
    IsActOf setting place (slice_get fits place) (slice_get old place) event came old answer new

-- ---- the round

-- a round need not wait for this node: it has idled, or it is down and not to be recovered yet
abbrev pub is_done_with : ℕ → StationView → Bool
is_done_with round station =
    (turns_of round station.turns).idled || (is_down station.node.mode && nat_lt round station.node.restart)

abbrev pub are_done_with : ℕ → List StationView → Bool
are_done_with round [] = true
are_done_with round (station ∷ stations) = is_done_with round station && are_done_with round stations

-- the round after this answer: behind a turn that was let pass it advances, if it need wait for no node
abbrev pub round_after : ReplyView → ℕ → List StationView → ℕ
round_after reply.Idled round stations =
    if are_done_with round stations then next_number round else round
round_after answer round stations = round

-- ---- what is in flight afterwards

-- what a packet is as it is sent: its spelling, from one node to another
abbrev pub sending_of : Packet → Sending
sending_of packet = record { from = packet.from; to = packet.to; packet = packet_text packet }

-- what a station sends by a plan that came out so
abbrev pub plan_sendings : StationPlan → Outcome → List Sending
plan_sendings plan came = map sending_of (packets_by plan.prospect came)

-- without the packet that came
abbrev pub traffic_left : Traffic → ℕ → Option ℕ → Traffic
traffic_left traffic k None = traffic
traffic_left traffic k (Some place) = traffic_without traffic k place

abbrev pub traffic_acted : NetworkAct → Traffic → ℕ → ℕ → Traffic
traffic_acted act_is.Lose traffic k place = traffic_without traffic k place
traffic_acted act_is.Repeat traffic k place = traffic_repeated traffic k place
traffic_acted (act_is.Delay rounds) traffic k place = traffic_delayed traffic k place rounds
traffic_acted (act_is.ArmPacket from nth change) traffic k place =
    traffic_armed traffic (record { from = from; to = k; nth = nth; change = change })

-- what an event sends that happens
abbrev pub sendings_then : Setting → EventView → Outcome → Option StationView → List Sending
sendings_then setting (ByNode k deed) came None = []
sendings_then setting (ByNode k deed) came (Some station) = plan_sendings (plan_of setting k deed station) came
sendings_then setting (Install done) came station = []
sendings_then setting (Release k) came station = []
sendings_then setting (ByNetwork k place act) came station = []

-- what an event leaves of what was in flight: all but the packet that came, or what an act of the network makes of it
abbrev pub traffic_then : Setting → EventView → Option StationView → Traffic
traffic_then setting (ByNode k deed) None = setting.traffic
traffic_then setting (ByNode k deed) (Some station) =
    traffic_left setting.traffic k (plan_of setting k deed station).came
traffic_then setting (Install done) station = setting.traffic
traffic_then setting (Release k) station = setting.traffic
traffic_then setting (ByNetwork k place act) station = traffic_acted act setting.traffic k place

-- what is in flight after an event: without the packet that came or as the network made it, and with what was sent
-- behind it
abbrev pub traffic_after : Setting → EventView → Outcome → ReplyView → Option StationView → Traffic
traffic_after setting event came answer station =
    if has_happened answer then all_sent setting.round (sendings_then setting event came station)
    (traffic_then setting event station) else setting.traffic

-- ---- one event of a world

-- One event of a world: what is answered, and the world afterwards.
pub record IsStep (fits : List (RecordView → Bool)) (event : EventView) (old : WorldView) (answer : ReplyView)
    (new : WorldView) : Type 0 where
  pub net : new.net ≡ old.net
  pub inputs : new.inputs ≡ old.inputs
  pub came : Outcome
  pub act : IsAct (setting_of old) (event_node event) fits event came old.stations answer new.stations
  pub traffic : new.traffic
      ≡ traffic_after (setting_of old) event came answer (slice_get old.stations (event_node event))
  pub round : new.round ≡ round_after answer old.round new.stations
  pub rooms : new.rooms ≡ old.rooms
