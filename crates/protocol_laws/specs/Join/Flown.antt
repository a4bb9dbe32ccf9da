-- What is in flight, as the abstract machine sees it: a world goes on with just that under way, whatever else was sent
-- before.
use Rattle.std.proofs.Common.{◌≡◌, ◌⊎◌, inl, inr, ℕ, zero, suc, ◌<◌, List, [], ◌∷◌, ◌++◌, length, All, get_or}
use Rattle.std.proofs.Common.{Option, Some, None, unwrap_or, refl, ap, ◌∙◌, arith}
use Rattle.std.specs.Prelude.{slice_get}
use Rattle.protocol.specs.Node.Common.{Network, in_front}
use Rattle.protocol.specs.World.Common.{Traffic, flights_to, Flight, Net, Packet, Step, HasRun, RunsOn}
use Rattle.protocol.specs.World.Common.{SaysWhatWasSent, WasSent, world_seen, net_seen, StationView}
use Rattle.wire.specs.Traffic.{QueueTraffic}
use Rattle.recovery_line.specs.Worlds.{Send}
use Rattle.protocol.specs.Join.Runs.{Carries, IsInFlight}
use Rattle.protocol.specs.Join.Seen.{bytes_seen}
use Rattle.protocol_laws.specs.Join.Leading.{leads_by, reached_then}

-- what the packets of a queue, of queues, and all in flight say of checkpoints
abbrev flights_seen : List Flight → List Packet
flights_seen [] = []
flights_seen (f ∷ flights) = in_front (bytes_seen f.packet) (flights_seen flights)

abbrev queues_seen : List QueueTraffic → List Packet
queues_seen [] = []
queues_seen (q ∷ queues) = flights_seen q.flights ++ queues_seen queues

abbrev pub all_flown : Traffic → List Packet
all_flown traffic = queues_seen traffic.queues

abbrev flights_at : List QueueTraffic → ℕ → List Flight
flights_at queues to = (unwrap_or (slice_get queues to) (record { flights = []; counts = [] })).flights

-- one of these packets says this
record IsAmong (flights : List Flight) (told : Packet) : Type 0 where
  pub place : ℕ
  pub flight : Flight
  pub there : slice_get flights place ≡ Some flight
  pub says : bytes_seen flight.packet ≡ Some told

-- so does one of those in these queues
record IsQueued (queues : List QueueTraffic) (told : Packet) : Type 0 where
  pub to : ℕ
  pub among : IsAmong (flights_at queues to) told

-- ---- whatever is listed is in flight

from_either : (xs ys : List Packet) (told : Packet) → WasSent (xs ++ ys) told → WasSent xs told ⊎ WasSent ys told
from_either [] ys told was = inr was
from_either (x ∷ xs) ys told (zero, is) = inl (zero, is)
from_either (x ∷ xs) ys told (suc place, is) = elim (from_either xs ys told (place, is)) [
  | inl first ↦ inl (suc first.0, first.1)
  | inr second ↦ inr second
]

among_later : (f : Flight) (flights : List Flight) (told : Packet) → IsAmong flights told → IsAmong (f ∷ flights) told
among_later f flights told is =
    record { place = suc is.place; flight = is.flight; there = is.there; says = is.says }

among_first : (f : Flight) (flights : List Flight) (told : Packet) (o : Option Packet) → bytes_seen f.packet ≡ o
    → (WasSent (flights_seen flights) told → IsAmong flights told)
    → WasSent (in_front o (flights_seen flights)) told → IsAmong (f ∷ flights) told
among_first f flights told None silent rest was = among_later f flights told (rest was)
among_first f flights told (Some first) says rest (zero, is) =
    record { place = zero; flight = f; there = refl; says = says ∙ is }
among_first f flights told (Some first) says rest (suc place, is) = among_later f flights told (rest (place, is))

among_flights : (flights : List Flight) (told : Packet) → WasSent (flights_seen flights) told → IsAmong flights told
among_flights [] told was = absurd (cc)
among_flights (f ∷ flights) told was =
    among_first f flights told (bytes_seen f.packet) refl (among_flights flights told) was

among_queues : (queues : List QueueTraffic) (told : Packet) → WasSent (queues_seen queues) told → IsQueued queues told
among_queues [] told was = absurd (cc)
among_queues (q ∷ queues) told was =
    elim (from_either (flights_seen q.flights) (queues_seen queues) told was) [
      | inl here ↦ record { to = zero; among = among_flights q.flights told here }
      | inr later ↦ let rest = among_queues queues told later in record { to = suc rest.to; among = rest.among }
    ]

pub is_flown : (traffic : Traffic) (told : Packet) → WasSent (all_flown traffic) told → IsInFlight traffic told
is_flown traffic told was =
    let queued = among_queues traffic.queues told was in
    record {
      to = queued.to;
      place = queued.among.place;
      flight = queued.among.flight;
      there = queued.among.there;
      says = queued.among.says;
    }

-- ---- and whatever is in flight is listed

in_first : (xs ys : List Packet) (told : Packet) → WasSent xs told → WasSent (xs ++ ys) told
in_first [] ys told was = absurd (cc)
in_first (x ∷ xs) ys told (zero, is) = (zero, is)
in_first (x ∷ xs) ys told (suc place, is) = let rest = in_first xs ys told (place, is) in (suc rest.0, rest.1)

in_second : (xs ys : List Packet) (told : Packet) → WasSent ys told → WasSent (xs ++ ys) told
in_second [] ys told was = was
in_second (x ∷ xs) ys told was = let rest = in_second xs ys told was in (suc rest.0, rest.1)

listed_first : (o : Option Packet) (rest : List Packet) (told : Packet) → o ≡ Some told → WasSent (in_front o rest) told
listed_first None rest told is = absurd (cc)
listed_first (Some first) rest told is = (zero, is)

listed_later : (o : Option Packet) (rest : List Packet) (told : Packet) → WasSent rest told
    → WasSent (in_front o rest) told
listed_later None rest told was = was
listed_later (Some first) rest told was = (suc was.0, was.1)

flight_listed : (flights : List Flight) (i : ℕ) (d : Flight) → i < length flights
    → SaysWhatWasSent (flights_seen flights) (get_or flights i d).packet
flight_listed [] i d within told says = absurd (omega (arith, within))
flight_listed (f ∷ flights) zero d within told says =
    listed_first (bytes_seen f.packet) (flights_seen flights) told says
flight_listed (f ∷ flights) (suc i) d within told says =
    listed_later (bytes_seen f.packet) (flights_seen flights) told
    (flight_listed flights i d (omega (arith, within)) told says)

queue_listed : (queues : List QueueTraffic) (to i : ℕ) (d : Flight) → i < length (flights_at queues to)
    → SaysWhatWasSent (queues_seen queues) (get_or (flights_at queues to) i d).packet
queue_listed [] to i d within told says = absurd (omega (arith, within))
queue_listed (q ∷ queues) zero i d within told says =
    in_first (flights_seen q.flights) (queues_seen queues) told (flight_listed q.flights i d within told says)
queue_listed (q ∷ queues) (suc to) i d within told says =
    in_second (flights_seen q.flights) (queues_seen queues) told (queue_listed queues to i d within told says)

pub flown_carries : (traffic : Traffic) → Carries traffic (all_flown traffic)
flown_carries traffic to = λ i d within. queue_listed traffic.queues to i d within

-- ---- a world of which all else that was sent is lost

flight_was_sent : (sent : List Packet) (flights : List Flight) (told : Packet) (place : ℕ) (flight : Flight)
    → All (λ (f : Flight). SaysWhatWasSent sent f.packet) flights → slice_get flights place ≡ Some flight
    → bytes_seen flight.packet ≡ Some told → WasSent sent told
flight_was_sent sent [] told place flight all there says = absurd (cc)
flight_was_sent sent (f ∷ flights) told zero flight all there says =
    let here : f ≡ flight = cc in
    all zero f (omega arith) told (ap (λ (x : Flight). bytes_seen x.packet) here ∙ says)
flight_was_sent sent (f ∷ flights) told (suc place) flight all there says =
    flight_was_sent sent flights told place flight (λ i d below. all (suc i) d (omega (arith, below))) there says

pub in_flight_was_sent : (traffic : Traffic) (sent : List Packet) (told : Packet) → Carries traffic sent
    → IsInFlight traffic told → WasSent sent told
in_flight_was_sent traffic sent told carries is =
    flight_was_sent sent (flights_to traffic is.to) told is.place is.flight (carries is.to) is.there is.says

forgets : (net : Net) (stations : List StationView) (traffic : Traffic) (sent : List Packet) → Carries traffic sent
    → Step net (world_seen stations sent) (world_seen stations (all_flown traffic))
forgets net stations traffic sent carries =
    Send (record {
      records = refl;
      modes = refl;
      outlets = refl;
      flight =
          λ told was. inl (in_flight_was_sent traffic sent told carries (is_flown traffic told was));
    })

-- a world that goes on has run then
pub has_run_then : (net : Network) (before after : List StationView) (traffic flown : Traffic)
    → RunsOn net before traffic after flown → HasRun net after flown
has_run_then net before after traffic flown on =
    let seen = net_seen net in
    record {
      sent = all_flown flown;
      reached = reached_then seen (world_seen after on.sent) (world_seen after (all_flown flown))
          (reached_then seen (world_seen before on.run.sent) (world_seen after on.sent) on.run.reached on.leads)
          (leads_by seen (world_seen after on.sent) (world_seen after (all_flown flown))
          (forgets seen after flown on.sent on.carries));
      carries = flown_carries flown;
      flown = is_flown flown;
    }
