-- How an event at a station came out, with what is in flight before it and behind it.
use Rattle.std.specs.Prelude.{◌≡◌, ℕ, Bool, if◌then◌else◌, List, [], map, Option, Some, None, All}
use Rattle.protocol.specs.Node.Common.{IsPacket, RecordView, restart_after, Prospect, IsMade, IsPut, packets_by}
use Rattle.protocol.specs.Node.Common.{room_for}
use Rattle.wire.specs.Queue.{QueueState}
use Rattle.wire.specs.Staging.{BatchState, HasRoomFor, IsReady}
use Rattle.protocol.specs.World.Common.{Traffic, all_sent, traffic_of, traffic_without, Sending, EventView, answer_by}
use Rattle.protocol.specs.World.Common.{has_happened, ReplyView, StationView, IsPlanned, IsStationStep, Setting}
use Rattle.protocol.specs.World.Common.{StationPlan, traffic_after, moved_to, sending_of, traffic_left}
use Rattle.wire.specs.Traffic.{AreNodes}
use Rattle.wire.specs.Wire.{WireState}
use Rattle.protocol.specs.declared.reply.Reply.TheVariants as reply
use Rattle.protocol.specs.World.Steps.{plan_sendings}
use Rattle.protocol.specs.declared.outcome.Outcome.{Outcome}
use Rattle.protocol.specs.declared.outcome.Outcome.TheVariants as outcome
use Rattle.protocol.specs.declared.outcome.Refusal.TheVariants.{TooLarge, Spent}

-- ---- what is ready to be sent

-- these were made ready to be sent; no batch is made of none
abbrev pub IsReadyIn : Traffic → ℕ → List Sending → Option BatchState → Type 0
IsReadyIn traffic round sendings None = sendings ≡ []
IsReadyIn traffic round sendings (Some batch) = IsReady traffic round sendings batch

-- there is memory for a batch, if there is one
abbrev pub HasRoomIn : List QueueState → Option BatchState → Type 0
HasRoomIn queues None = Unit {0}
HasRoomIn queues (Some batch) = HasRoomFor queues batch

-- these are ready to be sent in a round, and there is room for them
pub record IsReadyFor (wire : WireState) (round : ℕ) (sendings : List Sending)
    (batch : Option BatchState) : Type 0 where
  pub nodes : All AreNodes sendings
  pub ready : IsReadyIn (traffic_of wire) round sendings batch
  pub room : HasRoomIn wire.queues batch

-- what is sent where an event came out so: this where it is made, and that where its record is too large
abbrev pub sent_then : {A : Type 0} → Outcome → List A → List A → List A
sent_then outcome.NotDue made declined = []
sent_then outcome.Made made declined = made
sent_then (outcome.Refused TooLarge) made declined = declined
sent_then (outcome.Refused Spent) made declined = []
sent_then outcome.Failed made declined = []

-- the packet that came is gone, if something happened
abbrev pub taken_by : Outcome → Traffic → ℕ → ℕ → Traffic
taken_by outcome.NotDue traffic to place = traffic
taken_by outcome.Made traffic to place = traffic_without traffic to place
taken_by (outcome.Refused refusal) traffic to place = traffic_without traffic to place
taken_by outcome.Failed traffic to place = traffic_without traffic to place

-- ---- a deed

-- a deed of a station came out by its plan
abbrev pub ComesBy : (RecordView → Bool) → ℕ → StationPlan → StationView → ReplyView → StationView → Type 0
ComesBy fits round plan old answer new = (came : Outcome) × IsPlanned fits round plan came old answer new

-- and so did what is in flight: a packet that came to node k is gone, and what the plan sends is sent
pub record ComesOut (fits : RecordView → Bool) (round : ℕ) (plan : StationPlan) (old : StationView)
    (answer : ReplyView) (new : StationView) (k : ℕ) (before after : Traffic) : Type 0 where
  pub came : Outcome
  pub step : IsPlanned fits round plan came old answer new
  pub traffic : after
      ≡ (if has_happened answer then all_sent round (plan_sendings plan came) (traffic_left before k plan.came)
      else before)

-- a packet of this place, which comes to node `to`, came out so at a node that is up: what is said to it is sent
pub record ComesHeard (fits : RecordView → Bool) (round : ℕ) (prospect : Prospect) (old : StationView)
    (answer : ReplyView) (new : StationView) (to place : ℕ) (before after : Traffic) : Type 0 where
  pub call : ℕ
  pub came : Outcome
  pub step : IsMade (restart_after old.node.armed call round) prospect old.node came new.node
  pub put : IsPut (room_for fits prospect) old.failures new.failures came
  pub answers : answer ≡ answer_by reply.Delivered reply.Delivered came
  pub allowed : All IsPacket (packets_by prospect came)
  pub same : new ≡ moved_to new.node new.failures old.turns old
  pub traffic : after ≡ all_sent round (map sending_of (packets_by prospect came)) (taken_by came before to place)

-- ---- an event

-- an event of a station came out so
pub record HasCome (setting : Setting) (fits : RecordView → Bool) (event : EventView) (old : StationView)
    (answer : ReplyView) (new : StationView) (flown : Traffic) : Type 0 where
  pub came : Outcome
  pub step : IsStationStep setting fits event came old answer new
  pub traffic : flown ≡ traffic_after setting event came answer (Some old)
