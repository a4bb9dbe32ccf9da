-- Packets made ready in queues of their own, and put last.
use Rattle.std.proofs.Common.{◌≡◌, ℕ, zero, suc, ◌+◌, ◌<◌, ◌≤◌, List, [], ◌∷◌, ◌++◌, length, map, take, drop, get_or}
use Rattle.std.proofs.Common.{unwrap_or, slice_get, refl, sym, ap, subst, ◌∙◌, append_assoc, arith, All}
use Rattle.std.specs.Prelude.{slice_set}
use Rattle.std.specs.List.{AllZip}
use Rattle.std.proofs.lemmas.List.{append-nil, get_or_default, get_or-map, length-set, map-append, map-set}
use Rattle.std.proofs.lemmas.List.{set-get_or, take-append-drop, take_more, take_more_set}
use Rattle.std.proofs.lemmas.List.Elements.{All-head, All-tail, AllZip-push}
use Rattle.std.proofs.lemmas.Option.{unwrap_or-slice_get}
use Rattle.wire.specs.declared.queue.TheConstants.{NODES}
use Rattle.wire.specs.declared.queue.Flight.{Flight}
use Rattle.wire.specs.declared.rule.Rule.{Rule}
use Rattle.wire.specs.declared.sending.Sending.{Sending}
use Rattle.wire.specs.Queue.{QueueState, counted}
use Rattle.wire.specs.Wire.{WireState, queue_at}
use Rattle.wire.specs.Traffic.{QueueTraffic, Traffic, AreNodes, queue_traffic, queues_traffic, next_flights, queue_sent}
use Rattle.wire.specs.Traffic.{traffic_sent, all_sent}
use Rattle.wire.specs.Staging.{joined, all_joined, behind, unsent, HasRoom, ruled}
use Rattle.wire.proofs.Seen.{seen_made}

abbrev none : QueueTraffic
none = record { flights = []; counts = [] }

abbrev at_node : List QueueTraffic → ℕ → QueueTraffic
at_node queues node = unwrap_or (slice_get queues node) none

-- with another queue to go last
joined_set : (queues more : List QueueTraffic) (node : ℕ) (queue : QueueTraffic) → length more ≡ length queues
    → node < length queues
    → all_joined queues (slice_set more node queue)
    ≡ slice_set (all_joined queues more) node (joined (at_node queues node) queue)
joined_set [] more node queue same within = absurd (omega (arith, within))
joined_set (q ∷ queues) [] node queue same within = absurd (omega (arith, same))
joined_set (q ∷ queues) (m ∷ more) zero queue same within = refl
joined_set (q ∷ queues) (m ∷ more) (suc node) queue same within =
    let shorter : length more ≡ length queues = omega (arith, same) in
    let below : node < length queues = omega (arith, within) in
    ap (λ (xs : List QueueTraffic). joined q m ∷ xs) (joined_set queues more node queue shorter below)

joined_at : (queues more : List QueueTraffic) (node : ℕ) → length more ≡ length queues → node < length queues
    → at_node (all_joined queues more) node ≡ joined (at_node queues node) (at_node more node)
joined_at [] more node same within = absurd (omega (arith, within))
joined_at (q ∷ queues) [] node same within = absurd (omega (arith, same))
joined_at (q ∷ queues) (m ∷ more) zero same within = refl
joined_at (q ∷ queues) (m ∷ more) (suc node) same within =
    let shorter : length more ≡ length queues = omega (arith, same) in
    let below : node < length queues = omega (arith, within) in
    joined_at queues more node shorter below

-- what is sent behind others goes last
sent_behind : (rules : List Rule) (from to : ℕ) (packet : List ℕ) (round : ℕ) (queue more : QueueTraffic)
    → joined queue (queue_sent rules from to packet round more)
    ≡ queue_sent rules from to packet round (joined queue more)
sent_behind rules from to packet round queue more =
    ap (λ (flights : List Flight). let made : QueueTraffic =
    record { flights = flights; counts = counted more.counts from } in made)
    (sym (append_assoc queue.flights more.flights (next_flights rules more.counts from to packet round)))

traffic_sent_behind : (queues : List QueueTraffic) (more : Traffic) (from to : ℕ) (packet : List ℕ) (round : ℕ)
    → length more.queues ≡ length queues → to < length queues
    → behind queues (traffic_sent from to packet round more) ≡ traffic_sent from to packet round (behind queues more)
traffic_sent_behind queues more from to packet round same within =
    ap (λ (qs : List QueueTraffic). let made : Traffic = record { queues = qs; rules = more.rules } in made)
    (joined_set queues more.queues to (queue_sent more.rules from to packet round (at_node more.queues to)) same within
    ∙ ap (slice_set (all_joined queues more.queues) to)
    (sent_behind more.rules from to packet round (at_node queues to) (at_node more.queues to)
    ∙ ap (queue_sent more.rules from to packet round) (sym (joined_at queues more.queues to same within))))

pub all_sent_behind : (queues : List QueueTraffic) (round : ℕ) (sendings : List Sending) (more : Traffic)
    → length more.queues ≡ length queues → NODES ≤ length queues
    → All AreNodes sendings
    → behind queues (all_sent round sendings more) ≡ all_sent round sendings (behind queues more)
all_sent_behind queues round [] more same nodes all = refl
all_sent_behind queues round (s ∷ sendings) more same nodes all =
    let to : s.to < NODES = (All-head AreNodes s sendings all).1 in
    let within : s.to < length queues = omega arith in
    let sent : Traffic = traffic_sent s.from s.to s.packet round more in
    let kept : length sent.queues ≡ length more.queues =
    length-set more.queues s.to (queue_sent more.rules s.from s.to s.packet round (at_node more.queues s.to)) in
    all_sent_behind queues round sendings sent (kept ∙ same) nodes (All-tail AreNodes s sendings all)
    ∙ ap (all_sent round sendings) (traffic_sent_behind queues more s.from s.to s.packet round same within)

-- what is sent goes last in its queue
pub staged_next : (queues : List QueueState) (rules : List Rule) (from to : ℕ) (packet : List ℕ) (round : ℕ)
    (d later : QueueState) → to < length queues
    → queue_traffic later ≡ queue_sent rules from to packet round (queue_traffic (get_or queues to d))
    → ruled rules (slice_set queues to later) ≡ traffic_sent from to packet round (ruled rules queues)
staged_next queues rules from to packet round d later within sent =
    let old : WireState = record { queues = queues; rules = rules } in
    let new : WireState = record { queues = slice_set queues to later; rules = rules } in
    let nobody : QueueState = record { flights = []; counts = []; room = 0 } in
    let there : queue_at old to ≡ get_or queues to d =
    unwrap_or-slice_get queues to nobody ∙ get_or_default queues to nobody d within in
    seen_made (queue_sent rules from to packet round) old new to later refl
    (sent ∙ ap (λ (q : QueueState). queue_sent rules from to packet round (queue_traffic q)) (sym there))

-- nothing goes last
pub nothing_behind : (queues : List QueueTraffic) → all_joined queues (map unsent queues) ≡ queues
nothing_behind [] = refl
nothing_behind (q ∷ queues) =
    ap (λ (flights : List Flight). let made : QueueTraffic = record { flights = flights; counts = q.counts } in
    made ∷ all_joined queues (map unsent queues)) (append-nil q.flights)
    ∙ ap (λ (qs : List QueueTraffic). q ∷ qs) (nothing_behind queues)

-- one queue has more memory, and is else the same
pub reserved_next : (queues : List QueueState) (place : ℕ) (d later : QueueState) (room : ℕ)
    (whole : List QueueTraffic) → place < length queues
    → later ≡ record {
      flights = (get_or queues place d).flights;
      counts = (get_or queues place d).counts;
      room = room;
    } → queues_traffic queues ≡ whole
    → queues_traffic (slice_set queues place later) ≡ whole
reserved_next queues place d later room whole within same so_far =
    map-set queue_traffic queues place later
    ∙ (ap (slice_set (queues_traffic queues) place)
    (ap queue_traffic same ∙ sym (get_or-map queue_traffic queues place d none within))
    ∙ (set-get_or (queues_traffic queues) place none ∙ so_far))

pub roomy_next : (queues staged : List QueueState) (place : ℕ) (d later : QueueState) → place < length queues
    → place < length staged
    → AllZip HasRoom (take place queues) (take place staged) → length (get_or staged place d).flights ≤ later.room
    → AllZip HasRoom (take (place + 1) (slice_set queues place later)) (take (place + 1) staged)
roomy_next queues staged place d later within below so_far room =
    subst (λ (xs : List QueueState). AllZip HasRoom xs (take (place + 1) staged))
    (sym (take_more_set queues place later within))
    (subst (λ (ys : List QueueState). AllZip HasRoom (take place queues ++ later ∷ []) ys)
    (sym (take_more staged place d below))
    (AllZip-push HasRoom (take place queues) (take place staged) later (get_or staged place d) so_far room))

joined_none : (queues : List QueueTraffic) → all_joined queues [] ≡ queues
joined_none [] = refl
joined_none (q ∷ queues) = refl

-- nothing is left to go last
pub joined_end : (place : ℕ) (queues more : List QueueState) (whole : List QueueTraffic) → more ≡ []
    → queues_traffic (take place queues) ++ all_joined (queues_traffic (drop place queues)) (queues_traffic more)
    ≡ whole → queues_traffic queues ≡ whole
joined_end place queues more whole end so_far =
    ap queues_traffic (sym (take-append-drop place queues))
    ∙ (map-append queue_traffic (take place queues) (drop place queues)
    ∙ (ap (λ (ts : List QueueTraffic). queues_traffic (take place queues) ++ ts)
    (sym (joined_none (queues_traffic (drop place queues))))
    ∙ (ap (λ (xs : List QueueState). queues_traffic (take place queues)
    ++ all_joined (queues_traffic (drop place queues)) (queues_traffic xs)) (sym end) ∙ so_far)))
