-- Every packet in flight was sent. Whatever test all packets in flight pass, of the node that they are for and of their
-- bytes, and all packets that are sent pass too, they all pass after each event. So it holds of the test whether a
-- packet was sent ever before: nothing is made up.
use Rattle.std.specs.Prelude.{◌≡◌, ℕ, Bool, true, if◌then◌else◌, List, [], Option, Some, All, IsTrue, slice_get}
use Rattle.ckpt_codec.specs.Common.{RecordView}
use Rattle.wire.specs.Queue.{AllPackets}
use Rattle.wire.specs.Traffic.{Traffic, flights_to, opening_traffic}
use Rattle.wire.specs.declared.sending.Sending.{Sending}
use Rattle.protocol.specs.Node.Modes.{is_down}
use Rattle.protocol.specs.World.EventView.{EventView, event_node}
use Rattle.protocol.specs.World.Replies.{has_happened}
use Rattle.protocol.specs.World.ReplyView.{ReplyView}
use Rattle.protocol.specs.World.StationView.{StationView}
use Rattle.protocol.specs.World.Steps.{IsStep, Setting, WorldView, sendings_then, setting_of, traffic_after}
use Rattle.protocol.specs.declared.outcome.Outcome.{Outcome}

-- each packet in flight to each node passes a test of that node and its bytes
abbrev pub AllInFlight : (ℕ → List ℕ → Bool) → Traffic → Type 0
AllInFlight test traffic = (to : ℕ) → AllPackets (test to) (flights_to traffic to)

-- and so does each of these that are sent
abbrev pub AllSent : (ℕ → List ℕ → Bool) → List Sending → Type 0
AllSent test sendings = All (λ sending. IsTrue (test sending.to sending.packet)) sendings

-- what an event at this station sends that came out so, if it happened, as its answer tells
abbrev pub sendings_after : Setting → EventView → Outcome → ReplyView → Option StationView → List Sending
sendings_after setting event came answer station =
    if has_happened answer then sendings_then setting event came station else []

-- what an event sends in a world, by its answer
abbrev pub sent_in : EventView → WorldView → Outcome → ReplyView → List Sending
sent_in event world came answer =
    sendings_after (setting_of world) event came answer (slice_get world.stations (event_node event))

-- at first all packets in flight pass any test, since there are none
abbrev pub NothingAtFirst : Type 0
NothingAtFirst = (test : ℕ → List ℕ → Bool) → AllInFlight test opening_traffic

-- whatever an event is, and whatever is answered, it puts nothing in flight but what it sends
abbrev pub NothingIsMadeUp : Type 0
NothingIsMadeUp =
    (test : ℕ → List ℕ → Bool) (setting : Setting) (event : EventView) (came : Outcome) (answer : ReplyView)
    (station : Option StationView)
    → AllInFlight test setting.traffic → AllSent test (sendings_after setting event came answer station)
    → AllInFlight test (traffic_after setting event came answer station)

-- Whatever test of receiver and bytes all packets in flight pass, and all that an event sends, all packets in flight
-- pass it after that event too: so nothing is in flight that wasn't sent.
abbrev pub EachWasSent : Type 0
EachWasSent =
    (test : ℕ → List ℕ → Bool) (fits : List (RecordView → Bool)) (event : EventView) (old : WorldView)
    (answer : ReplyView) (new : WorldView)
    (step : IsStep fits event old answer new) → AllInFlight test old.traffic
    → AllSent test (sent_in event old step.came answer)
    → AllInFlight test new.traffic

-- and whatever the event, and however it comes out, a node that is down sends nothing
abbrev pub OnlyNodesThatAreUpSend : Type 0
OnlyNodesThatAreUpSend =
    (setting : Setting) (event : EventView) (came : Outcome) (station : StationView)
    → is_down station.node.mode ≡ true
    → sendings_then setting event came (Some station) ≡ []
