-- Laws of what is in flight: what holds of the node and the bytes of each packet in flight, and of each that is sent,
-- goes on holding.
use Rattle.std.proofs.Common.{◌≡◌, ℕ, zero, suc, Bool, true, false, cond, List, [], ◌∷◌, replicate, All, Option, Some}
use Rattle.std.proofs.Common.{None, unwrap_or, refl, sym, ap, subst}
use Rattle.std.specs.Prelude.{IsTrue, slice_get, slice_set, remove}
use Rattle.std.proofs.lemmas.List.Elements.{All-nil, All-head, All-tail}
use Rattle.wire.proofs.Passing.{sent_passes, repeated_passes, delayed_passes, gone_passes}
use Rattle.wire.specs.Queue.{with_delay, with_copy}
use Rattle.wire.specs.Rules.{fate_of}
use Rattle.protocol.specs.World.Common.{Traffic, flights_to, traffic_without, all_sent, opening_traffic, Flight}
use Rattle.protocol.specs.World.Common.{NODES, Sending, EventView, ByNode, ByNetwork, Install, Release, event_node}
use Rattle.protocol.specs.World.Common.{has_happened, StationView, Setting, plan_of, setting_of, traffic_acted}
use Rattle.protocol.specs.World.Common.{traffic_left}
use Rattle.wire.specs.Traffic.{QueueTraffic, traffic_at, with_traffic}
use Rattle.wire.specs.Traffic.{traffic_delayed, traffic_repeated, traffic_sent, empty_queue}
use Rattle.wire.specs.Wire.{nth_in}
use Rattle.protocol.specs.declared.event.NetworkAct.{NetworkAct}
use Rattle.protocol.specs.declared.event.NetworkAct.TheVariants as act_is
use Rattle.protocol.specs.World.InFlight.{AllInFlight, AllSent, EachWasSent, NothingAtFirst, NothingIsMadeUp}
use Rattle.protocol.specs.World.Steps.{sendings_then}
use Rattle.protocol.specs.World.Steps.{traffic_then}

abbrev nothing : QueueTraffic
nothing = record { flights = []; counts = [] }

abbrev queue_of : List QueueTraffic → ℕ → QueueTraffic
queue_of queues node = unwrap_or (slice_get queues node) nothing

-- what holds of a node's queue holds with another queue for some node, if it does of that where the two are one
set_keeps : (P : QueueTraffic → Type 0) (queues : List QueueTraffic) (node to : ℕ) (queue : QueueTraffic)
    → P (queue_of queues to) → (to ≡ node → P queue)
    → P (queue_of (slice_set queues node queue) to)
set_keeps P [] node to queue old new = old
set_keeps P (q ∷ queues) zero zero queue old new = new refl
set_keeps P (q ∷ queues) zero (suc to) queue old new = old
set_keeps P (q ∷ queues) (suc node) zero queue old new = old
set_keeps P (q ∷ queues) (suc node) (suc to) queue old new = set_keeps P queues node to queue old (λ e. new (ap suc e))

none_there : (count to : ℕ) → (queue_of (replicate count empty_queue) to).flights ≡ []
none_there zero to = refl
none_there (suc count) zero = refl
none_there (suc count) (suc to) = none_there count to

-- What is in flight

module _ (P : ℕ → List ℕ → Type 0) where
  -- it holds of what is in flight to a node, and of all that is in flight
  abbrev Holds : ℕ → List Flight → Type 0
  Holds to flights = All (λ f. P to f.packet) flights

  abbrev AllHold : Traffic → Type 0
  AllHold traffic = (to : ℕ) → Holds to (flights_to traffic to)

  abbrev OfSending : Sending → Type 0
  OfSending sending = P sending.to sending.packet

  pub opened_holds : AllHold opening_traffic
  opened_holds to = subst (Holds to) (sym (none_there NODES to)) (All-nil (λ f. P to f.packet))

  -- with other packets in flight to a node
  with_holds : (traffic : Traffic) (node : ℕ) (queue : QueueTraffic) → AllHold traffic → Holds node queue.flights
      → AllHold (with_traffic traffic node queue)
  with_holds traffic node queue all more to =
      set_keeps (λ q. Holds to q.flights) traffic.queues node to queue (all to)
      (λ e. subst (λ n. Holds n queue.flights) (sym e) more)

  -- one is taken or lost
  pub gone_holds : (traffic : Traffic) (to place : ℕ) → AllHold traffic → AllHold (traffic_without traffic to place)
  gone_holds traffic to place all =
      with_holds traffic to
      (record { flights = remove (flights_to traffic to) place; counts = (traffic_at traffic to).counts }) all
      (gone_passes (P to) (flights_to traffic to) place (all to))

  pub delayed_holds : (traffic : Traffic) (to place rounds : ℕ) → AllHold traffic
      → AllHold (traffic_delayed traffic to place rounds)
  delayed_holds traffic to place rounds all =
      with_holds traffic to
      (record {
        flights = with_delay (flights_to traffic to) place rounds;
        counts = (traffic_at traffic to).counts;
      }) all
      (delayed_passes (P to) (flights_to traffic to) place rounds (all to))

  pub repeated_holds : (traffic : Traffic) (to place : ℕ) → AllHold traffic
      → AllHold (traffic_repeated traffic to place)
  repeated_holds traffic to place all =
      with_holds traffic to
      (record { flights = with_copy (flights_to traffic to) place; counts = (traffic_at traffic to).counts }) all
      (repeated_passes (P to) (flights_to traffic to) place (all to))

  sent_holds : (from to : ℕ) (packet : List ℕ) (round : ℕ) (traffic : Traffic) → AllHold traffic → P to packet
      → AllHold (traffic_sent from to packet round traffic)
  sent_holds from to packet round traffic all one =
      let queue : QueueTraffic = traffic_at traffic to in
      let fate = fate_of traffic.rules from to (nth_in queue.counts from) in
      with_holds traffic to _ all (sent_passes (P to) queue.flights fate packet round (all to) one)

  -- and one after the other
  pub all_sent_holds : (round : ℕ) (sendings : List Sending) (traffic : Traffic) → AllHold traffic
      → All OfSending sendings → AllHold (all_sent round sendings traffic)
  all_sent_holds round [] traffic all each = all
  all_sent_holds round (s ∷ sendings) traffic all each =
      all_sent_holds round sendings (traffic_sent s.from s.to s.packet round traffic)
      (sent_holds s.from s.to s.packet round traffic all (All-head OfSending s sendings each))
      (All-tail OfSending s sendings each)

-- Every packet in flight was sent

abbrev Passes : (ℕ → List ℕ → Bool) → ℕ → List ℕ → Type 0
Passes test to packet = IsTrue (test to packet)

pub nothing_at_first : NothingAtFirst
nothing_at_first test = opened_holds (Passes test)

left_passes : (test : ℕ → List ℕ → Bool) (traffic : Traffic) (k : ℕ) (came : Option ℕ) → AllInFlight test traffic
    → AllInFlight test (traffic_left traffic k came)
left_passes test traffic k None all = all
left_passes test traffic k (Some place) all = gone_holds (Passes test) traffic k place all

acted_passes : (test : ℕ → List ℕ → Bool) (act : NetworkAct) (traffic : Traffic) (k place : ℕ)
    → AllInFlight test traffic → AllInFlight test (traffic_acted act traffic k place)
acted_passes test act_is.Lose traffic k place all = gone_holds (Passes test) traffic k place all
acted_passes test act_is.Repeat traffic k place all = repeated_holds (Passes test) traffic k place all
acted_passes test (act_is.Delay rounds) traffic k place all = delayed_holds (Passes test) traffic k place rounds all
acted_passes test (act_is.ArmPacket from nth change) traffic k place all = all

then_passes : (test : ℕ → List ℕ → Bool) (setting : Setting) (e : EventView) (station : Option StationView)
    → AllInFlight test setting.traffic → AllInFlight test (traffic_then setting e station)
then_passes test setting (ByNode k deed) None all = all
then_passes test setting (ByNode k deed) (Some station) all =
    left_passes test setting.traffic k (plan_of setting k deed station).came all
then_passes test setting (Install done) station all = all
then_passes test setting (Release k) station all = all
then_passes test setting (ByNetwork k place act) station all = acted_passes test act setting.traffic k place all

pub nothing_is_made_up : NothingIsMadeUp
nothing_is_made_up test setting e came answer station all sent = at (has_happened answer) sent
  where
    at : (b : Bool) → AllSent test (cond b (sendings_then setting e came station) [])
        → AllInFlight test
        (cond b (all_sent setting.round (sendings_then setting e came station) (traffic_then setting e station))
        setting.traffic)
    at false sent = all
    at true sent =
        all_sent_holds (Passes test) setting.round (sendings_then setting e came station)
        (traffic_then setting e station) (then_passes test setting e station all) sent

pub each_was_sent : EachWasSent
each_was_sent test fits e old answer new step all sent =
    subst (AllInFlight test) (sym step.traffic)
    (nothing_is_made_up test (setting_of old) e step.came answer (slice_get old.stations (event_node e)) all sent)
