-- What is ready to be sent, and what of it is.
use Rattle.std.proofs.Common.{◌≡◌, ℕ, ◌<◌, List, [], Option, Some, None, map, refl, sym, ap, subst, ◌∙◌, All, length}
use Rattle.std.specs.List.{AllZip}
use Rattle.protocol.specs.Node.Common.{IsPacket, Packet, Prospect, Undue, Exhausted, Planned, packets_by, IsWritable}
use Rattle.wire.specs.Staging.{BatchState, HasNoLessRoom, IsReady}
use Rattle.protocol.specs.World.Common.{Traffic, all_sent, flights_to, traffic_of, Flight, Sending, sending_of}
use Rattle.wire.specs.Wire.{WireState, in_flight}
use Rattle.wire.proofs.Ready.{still_roomy}
use Rattle.wire.proofs.Seen.{seen_at}
use Rattle.wire.specs.Traffic.{QueueTraffic}
use Rattle.protocol.specs.declared.outcome.Outcome.{Outcome}
use Rattle.protocol.specs.declared.outcome.Outcome.TheVariants as outcome
use Rattle.protocol.specs.declared.outcome.Refusal.TheVariants.{TooLarge, Spent}
use Rattle.station.specs.Coming.{IsReadyFor, sent_then, taken_by}

-- what has a spelling may be written
pub all_writable : (packets : List Packet) → All IsPacket packets → All IsWritable packets
all_writable packets all k d within fits = all k d within

-- what is ready stays so, where the same is in flight and there is no less room
pub still_ready : (old new : WireState) (round : ℕ) (sendings : List Sending) (batch : Option BatchState)
    → traffic_of new ≡ traffic_of old → AllZip HasNoLessRoom old.queues new.queues
    → IsReadyFor old round sendings batch → IsReadyFor new round sendings batch
still_ready old new round sendings None same more ready =
    record { nodes = ready.nodes; ready = ready.ready; room = tt }
still_ready old new round sendings (Some batch) same more ready = record {
  nodes = ready.nodes;
  ready = subst (λ (t : Traffic). IsReady t round sendings batch) (sym same) ready.ready;
  room = still_roomy old.queues new.queues batch more ready.room;
}

-- the packets in flight to a node, by the traffic
pub flying_seen : (wire : WireState) (to : ℕ) → flights_to (traffic_of wire) to ≡ in_flight wire to
flying_seen wire to = ap (λ (q : QueueTraffic). q.flights) (seen_at wire to)

-- a place of them stays one where the same is in flight
pub still_there : (old new : WireState) (to place : ℕ) → traffic_of new ≡ traffic_of old
    → place < length (flights_to (traffic_of old) to) → place < length (in_flight new to)
still_there old new to place same within =
    subst (λ (flights : List Flight). place < length flights)
    (ap (λ (t : Traffic). flights_to t to) (sym same) ∙ flying_seen new to) within

-- what is sent, by what came of the event
pub sent_is : (prospect : Prospect) (came : Outcome)
    → packets_by prospect came
    ≡ sent_then came (packets_by prospect outcome.Made) (packets_by prospect (outcome.Refused TooLarge))
sent_is Undue came = by came
  where
    by : (o : Outcome) → packets_by Undue o ≡ sent_then {A = Packet} o [] []
    by outcome.NotDue = refl
    by outcome.Made = refl
    by (outcome.Refused TooLarge) = refl
    by (outcome.Refused Spent) = refl
    by outcome.Failed = refl
sent_is (Exhausted looks) came = by came
  where
    by : (o : Outcome) → packets_by (Exhausted looks) o ≡ sent_then {A = Packet} o [] []
    by outcome.NotDue = refl
    by outcome.Made = refl
    by (outcome.Refused TooLarge) = refl
    by (outcome.Refused Spent) = refl
    by outcome.Failed = refl
sent_is (Planned plan) outcome.NotDue = refl
sent_is (Planned plan) outcome.Made = refl
sent_is (Planned plan) (outcome.Refused TooLarge) = refl
sent_is (Planned plan) (outcome.Refused Spent) = refl
sent_is (Planned plan) outcome.Failed = refl

-- and as it is sent
pub sendings_are : (came : Outcome) (made declined : List Packet)
    → sent_then came (map sending_of made) (map sending_of declined) ≡ map sending_of (sent_then came made declined)
sendings_are outcome.NotDue made declined = refl
sendings_are outcome.Made made declined = refl
sendings_are (outcome.Refused TooLarge) made declined = refl
sendings_are (outcome.Refused Spent) made declined = refl
sendings_are outcome.Failed made declined = refl

pub prospect_sent : (prospect : Prospect) (came : Outcome)
    → sent_then came (map sending_of (packets_by prospect outcome.Made))
    (map sending_of (packets_by prospect (outcome.Refused TooLarge)))
    ≡ map sending_of (packets_by prospect came)
prospect_sent prospect came =
    sendings_are came (packets_by prospect outcome.Made) (packets_by prospect (outcome.Refused TooLarge))
    ∙ ap (map sending_of) (sym (sent_is prospect came))

-- what is in flight behind a packet that was heard
pub heard_sent : (round : ℕ) (prospect : Prospect) (came : Outcome) (to place : ℕ) (mid before after : Traffic)
    → mid ≡ before
    → after
    ≡ all_sent round
    (sent_then came (map sending_of (packets_by prospect outcome.Made))
    (map sending_of (packets_by prospect (outcome.Refused TooLarge)))) (taken_by came mid to place)
    → after ≡ all_sent round (map sending_of (packets_by prospect came)) (taken_by came before to place)
heard_sent round prospect came to place mid before after same sent =
    sent
    ∙ (ap (λ (list : List Sending). all_sent round list (taken_by came mid to place)) (prospect_sent prospect came)
    ∙ ap (λ (t : Traffic). all_sent round (map sending_of (packets_by prospect came)) (taken_by came t to place)) same)

-- and behind a deed
pub deed_sent : (round : ℕ) (prospect : Prospect) (came : Outcome) (mid before after : Traffic) → mid ≡ before
    → after
    ≡ all_sent round
    (sent_then came (map sending_of (packets_by prospect outcome.Made))
    (map sending_of (packets_by prospect (outcome.Refused TooLarge)))) mid
    → after ≡ all_sent round (map sending_of (packets_by prospect came)) before
deed_sent round prospect came mid before after same sent =
    sent
    ∙ (ap (λ (list : List Sending). all_sent round list mid) (prospect_sent prospect came)
    ∙ ap (λ (t : Traffic). all_sent round (map sending_of (packets_by prospect came)) t) same)
