-- A wire without the memory of its queues.
use Rattle.std.proofs.Common.{◌≡◌, ℕ, ◌<◌, List, [], length, get_or, Option, Some, None, Result, Ok, Err}
use Rattle.std.proofs.Common.{unwrap_or, option_map, slice_get, refl, sym, ap, ◌∙◌}
use Rattle.std.specs.Prelude.{slice_set, remove, OnOk, OnErr}
use Rattle.std.proofs.lemmas.List.{get_or_default, map-set, set-get_or}
use Rattle.std.proofs.lemmas.Option.{slice_get-map, unwrap_or-slice_get}
use Rattle.wire.specs.declared.rule.Rule.{Rule}
use Rattle.wire.specs.Queue.{QueueState, without, with_delay, with_copy}
use Rattle.wire.specs.Wire.{WireState, queue_at, with_queue, with_room}
use Rattle.wire.specs.Traffic.{QueueTraffic, Traffic, queue_traffic, traffic_of, traffic_at, with_traffic}
use Rattle.wire.specs.Traffic.{traffic_without, traffic_delayed, traffic_repeated}

abbrev pub wire_of : List QueueState → List Rule → WireState
wire_of queues rules = record { queues = queues; rules = rules }

seen_or : (found : Option QueueState)
    → unwrap_or (option_map queue_traffic found) (record { flights = []; counts = [] })
    ≡ queue_traffic (unwrap_or found (record { flights = []; counts = []; room = 0 }))
seen_or None = refl
seen_or (Some queue) = refl

-- a node's queue
pub seen_at : (wire : WireState) (node : ℕ) → traffic_at (traffic_of wire) node ≡ queue_traffic (queue_at wire node)
seen_at wire node =
    ap (λ (found : Option QueueTraffic). unwrap_or found (record { flights = []; counts = [] }))
    (slice_get-map queue_traffic wire.queues node)
    ∙ seen_or (slice_get wire.queues node)

-- with another queue for a node
pub seen_with : (wire : WireState) (node : ℕ) (queue : QueueState)
    → traffic_of (with_queue wire node queue) ≡ with_traffic (traffic_of wire) node (queue_traffic queue)
seen_with wire node queue =
    ap (λ (queues : List QueueTraffic). let made : Traffic = record { queues = queues; rules = wire.rules } in made)
    (map-set queue_traffic wire.queues node queue)

-- what is made of a node's queue
pub seen_made : (make : QueueTraffic → QueueTraffic) (old new : WireState) (node : ℕ) (queue : QueueState)
    → new ≡ with_queue old node queue
    → queue_traffic queue ≡ make (queue_traffic (queue_at old node))
    → traffic_of new ≡ with_traffic (traffic_of old) node (make (traffic_at (traffic_of old) node))
seen_made make old new node queue is made =
    ap traffic_of is
    ∙ (seen_with old node queue ∙ ap (with_traffic (traffic_of old) node) (made ∙ ap make (sym (seen_at old node))))

-- with its own queue nothing is changed
same_traffic : (traffic : Traffic) (node : ℕ) → with_traffic traffic node (traffic_at traffic node) ≡ traffic
same_traffic traffic node =
    let none : QueueTraffic = record { flights = []; counts = [] } in
    ap (λ (queues : List QueueTraffic). let made : Traffic = record { queues = queues; rules = traffic.rules } in made)
    (ap (slice_set traffic.queues node) (unwrap_or-slice_get traffic.queues node none)
    ∙ set-get_or traffic.queues node none)

-- with other memory
pub seen_room : (old new : WireState) (node room : ℕ) → new ≡ with_room old node room → traffic_of new ≡ traffic_of old
seen_room old new node room is =
    let queue = queue_at old node in
    seen_made (λ (q : QueueTraffic). q) old new node
    (record { flights = queue.flights; counts = queue.counts; room = room }) is refl
    ∙ same_traffic (traffic_of old) node

pub seen_without : (old new : WireState) (to place : ℕ) → new ≡ with_queue old to (without (queue_at old to) place)
    → traffic_of new ≡ traffic_without (traffic_of old) to place
seen_without old new to place is =
    seen_made (λ (q : QueueTraffic). record { flights = remove q.flights place; counts = q.counts }) old new to
    (without (queue_at old to) place) is refl

pub seen_delayed : (old new : WireState) (to place rounds : ℕ)
    → new ≡ with_queue old to
    (record {
      flights = with_delay (queue_at old to).flights place rounds;
      counts =
          (queue_at old to).counts;
      room = (queue_at old to).room;
    })
    → traffic_of new ≡ traffic_delayed (traffic_of old) to place rounds
seen_delayed old new to place rounds is =
    let queue = queue_at old to in
    seen_made (λ (q : QueueTraffic). record { flights = with_delay q.flights place rounds; counts = q.counts }) old new
    to
    (record { flights = with_delay queue.flights place rounds; counts = queue.counts; room = queue.room }) is refl

pub seen_repeated : (old new : WireState) (to place room : ℕ)
    → new ≡ with_queue old to
    (record { flights = with_copy (queue_at old to).flights place; counts = (queue_at old to).counts; room = room })
    → traffic_of new ≡ traffic_repeated (traffic_of old) to place
seen_repeated old new to place room is =
    let queue = queue_at old to in
    seen_made (λ (q : QueueTraffic). record { flights = with_copy q.flights place; counts = q.counts }) old new to
    (record { flights = with_copy queue.flights place; counts = queue.counts; room = room }) is refl

-- what is made of the queue at a node's place is made of the node's queue
pub seen_there : (make : QueueState → QueueState) (queues : List QueueState) (rules : List Rule) (old : WireState)
    (node : ℕ) (queue later : QueueState)
    → wire_of queues rules ≡ old → node < length queues → queue ≡ get_or queues node queue → later ≡ make queue
    → wire_of (slice_set queues node later) rules ≡ with_queue old node (make (queue_at old node))
seen_there make queues rules old node queue later is within there made =
    let nobody : QueueState = record { flights = []; counts = []; room = 0 } in
    let found : queue_at (wire_of queues rules) node ≡ queue =
    unwrap_or-slice_get queues node nobody ∙ (get_or_default queues node nobody queue within ∙ sym there) in
    ap (λ (q : QueueState). with_queue (wire_of queues rules) node q) (made ∙ ap make (sym found))
    ∙ ap (λ (wire : WireState). with_queue wire node (make (queue_at wire node))) is

pub on_ok_map : {T E P Q : Type 0} (r : Result T E) → OnOk r P → (P → Q) → OnOk r Q
on_ok_map (Ok x) p f = f p
on_ok_map (Err e) p f = tt

pub on_err_map : {T E P Q : Type 0} (r : Result T E) → OnErr r P → (P → Q) → OnErr r Q
on_err_map (Ok x) p f = tt
on_err_map (Err e) p f = f p
