-- All that is in flight.
use Rattle.std.specs.Prelude.{ℕ, ◌+◌, Bool, false, List, [], slice_get, slice_set, slice_index, unwrap_or, Option, Some}
use Rattle.std.specs.Prelude.{None}
use Rattle.wire.specs.declared.rule.Rule.{Rule}
use Rattle.wire.specs.declared.queue.Flight.{Flight}
use Rattle.wire.specs.Rules.{capped}
use Rattle.wire.specs.Queue.{QueueState, is_due}

-- a queue for each node, and the rules in the order in which they were armed
pub record WireState : Type 0 where
  pub queues : List QueueState
  pub rules : List Rule

-- the queue of a node
abbrev pub queue_at : WireState → ℕ → QueueState
queue_at wire node = unwrap_or (slice_get wire.queues node) (record { flights = []; counts = []; room = 0 })

-- the packets in flight to a node
abbrev pub in_flight : WireState → ℕ → List Flight
in_flight wire node = (queue_at wire node).flights

-- the same with another queue for a node
abbrev pub with_queue : WireState → ℕ → QueueState → WireState
with_queue wire node queue = record { queues = slice_set wire.queues node queue; rules = wire.rules }

-- for how many packets more to a node there is memory
abbrev pub room_for : WireState → ℕ → ℕ
room_for wire node = (queue_at wire node).room

-- the same with other memory for the packets to a node
abbrev pub with_room : WireState → ℕ → ℕ → WireState
with_room wire node room =
    let queue = queue_at wire node in
    with_queue wire node (record { flights = queue.flights; counts = queue.counts; room = room })

-- which packet from a node the next one is, from 1, where these were sent before
abbrev pub nth_in : List ℕ → ℕ → ℕ
nth_in counts from = capped (slice_index counts from + 1)

abbrev pub is_due_at : ℕ → Option Flight → Bool
is_due_at round None = false
is_due_at round (Some flight) = is_due round flight
