-- What is in flight, without the memory that the queues have: what a world sees of a wire.
use Rattle.std.specs.Prelude.{ℕ, ◌<◌, List, [], ◌∷◌, ◌++◌, map, replicate, remove, slice_get, slice_set, unwrap_or}
use Rattle.wire.specs.declared.queue.TheConstants.{NODES}
use Rattle.wire.specs.declared.queue.Flight.{Flight}
use Rattle.wire.specs.declared.rule.Rule.{Rule}
use Rattle.wire.specs.declared.sending.Sending.{Sending}
use Rattle.wire.specs.Rules.{fate_of}
use Rattle.wire.specs.Queue.{QueueState, flights_of, with_delay, with_copy, counted}
use Rattle.wire.specs.Wire.{WireState, nth_in}

-- the packets in flight to a node, in order, and how many each node has sent to it
pub record QueueTraffic : Type 0 where
  pub flights : List Flight
  pub counts : List ℕ

-- what is in flight: a queue of packets for each node, and what is to become of packets still to be sent, in the
-- order in which that was armed
pub record Traffic : Type 0 where
  pub queues : List QueueTraffic
  pub rules : List Rule

abbrev pub queue_traffic : QueueState → QueueTraffic
queue_traffic queue = record { flights = queue.flights; counts = queue.counts }

abbrev pub queues_traffic : List QueueState → List QueueTraffic
queues_traffic queues = map queue_traffic queues

abbrev pub traffic_of : WireState → Traffic
traffic_of wire = record { queues = queues_traffic wire.queues; rules = wire.rules }

-- the queue of a node, empty where there is no such node
abbrev pub traffic_at : Traffic → ℕ → QueueTraffic
traffic_at traffic node = unwrap_or (slice_get traffic.queues node) (record { flights = []; counts = [] })

-- the packets in flight to a node
abbrev pub flights_to : Traffic → ℕ → List Flight
flights_to traffic node = (traffic_at traffic node).flights

-- the same with another queue for a node
abbrev pub with_traffic : Traffic → ℕ → QueueTraffic → Traffic
with_traffic traffic node queue = record { queues = slice_set traffic.queues node queue; rules = traffic.rules }

-- the same with other packets in flight to a node
abbrev pub with_flights : Traffic → ℕ → List Flight → Traffic
with_flights traffic node flights =
    with_traffic traffic node (record { flights = flights; counts = (traffic_at traffic node).counts })

-- what is in flight without the packet at this place, which was taken or lost
abbrev pub traffic_without : Traffic → ℕ → ℕ → Traffic
traffic_without traffic to place = with_flights traffic to (remove (flights_to traffic to) place)

-- what is in flight where the packet at this place is due so many rounds later
abbrev pub traffic_delayed : Traffic → ℕ → ℕ → ℕ → Traffic
traffic_delayed traffic to place rounds = with_flights traffic to (with_delay (flights_to traffic to) place rounds)

-- what is in flight with a copy of the packet at this place behind all others for its node
abbrev pub traffic_repeated : Traffic → ℕ → ℕ → Traffic
traffic_repeated traffic to place = with_flights traffic to (with_copy (flights_to traffic to) place)

-- a rule is armed
abbrev pub traffic_armed : Traffic → Rule → Traffic
traffic_armed traffic rule = record { queues = traffic.queues; rules = traffic.rules ++ rule ∷ [] }

-- what is put in flight of the next packet from a node to another, by what these have sent
abbrev pub next_flights : List Rule → List ℕ → ℕ → ℕ → List ℕ → ℕ → List Flight
next_flights rules counts from to packet round = flights_of (fate_of rules from to (nth_in counts from)) packet round

-- a packet was sent to the node of this queue
abbrev pub queue_sent : List Rule → ℕ → ℕ → List ℕ → ℕ → QueueTraffic → QueueTraffic
queue_sent rules from to packet round queue = record {
  flights = queue.flights ++ next_flights rules queue.counts from to packet round;
  counts = counted queue.counts from;
}

-- a packet was sent, in a round
abbrev pub traffic_sent : ℕ → ℕ → List ℕ → ℕ → Traffic → Traffic
traffic_sent from to packet round traffic =
    with_traffic traffic to (queue_sent traffic.rules from to packet round (traffic_at traffic to))

-- what is in flight with these packets sent, one after the other
abbrev pub all_sent : ℕ → List Sending → Traffic → Traffic
all_sent round [] traffic = traffic
all_sent round (sending ∷ sendings) traffic =
    all_sent round sendings (traffic_sent sending.from sending.to sending.packet round traffic)

-- these are nodes
abbrev pub AreNodes : Sending → Type 0
AreNodes sending = (sending.from < NODES) × (sending.to < NODES)

-- nothing is in flight to a node, and nobody has sent anything to it
abbrev pub empty_queue : QueueTraffic
empty_queue = record { flights = []; counts = replicate NODES 0 }

-- nothing is in flight, and no rule is armed
abbrev pub opening_traffic : Traffic
opening_traffic = record { queues = replicate NODES empty_queue; rules = [] }
