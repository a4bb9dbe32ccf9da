-- Packets for which there is no rule.
use Rattle.std.proofs.Common.{◌≡◌, ◌∙◌, ◌⊎◌, ◌+◌, ◌<◌, ◌≤◌, ℕ, zero, suc, min, List, [], ◌∷◌, ◌++◌, length, take, slice_get, get_or, unwrap_or, All, inl, inr, ⊎_elim}
use Rattle.std.proofs.Common.{refl, sym, ap, subst, arith}
use Rattle.std.specs.Prelude.{slice_set, slice_index, remove}
use Rattle.std.proofs.lemmas.List.{get_or_default, take_all}
use Rattle.std.proofs.lemmas.Option.{unwrap_or-slice_get}
use Rattle.std.proofs.lemmas.List.Elements.{All-head, All-tail, All-weaker}
use Rattle.kahn_net.specs.declared.limits.TheConstants.{MAX_COUNT}
use Rattle.wire.specs.declared.rule.Fate.{Fate}
use Rattle.wire.specs.declared.rule.Rule.{Rule}
use Rattle.wire.specs.declared.sending.Sending.{Sending}
use Rattle.wire.specs.Index.{plain_fate}
use Rattle.wire.specs.Queue.{QueueState, counted, flights_of}
use Rattle.wire.specs.Rules.{capped, fate_of}
use Rattle.wire.specs.Staging.{IsFree, by_no_rule, number_of, ruled, with_rules}
use Rattle.wire.specs.Traffic.{QueueTraffic, Traffic, all_sent, queue_sent, queue_traffic, traffic_at, traffic_sent, traffic_without}
use Rattle.wire.specs.Wire.{nth_in}
use Rattle.wire.proofs.Seen.{seen_at}

-- ---- what stands at a place where something is set

set_at : {A : Type 0} (d : A) (xs : List A) (one other : ℕ) (x : A)
    → (unwrap_or (slice_get (slice_set xs one x) other) d ≡ unwrap_or (slice_get xs other) d)
    ⊎ ((unwrap_or (slice_get (slice_set xs one x) other) d ≡ x) × (one ≡ other))
set_at d [] one other x = inl refl
set_at d (y ∷ xs) zero zero x = inr (refl, refl)
set_at d (y ∷ xs) zero (suc other) x = inl refl
set_at d (y ∷ xs) (suc one) zero x = inl refl
set_at d (y ∷ xs) (suc one) (suc other) x =
    ⊎_elim (λ e. inl e) (λ e. inr (e.0, ap suc e.1)) (set_at d xs one other x)

number_set : (counts : List ℕ) (one other n : ℕ)
    → (slice_index (slice_set counts one n) other ≡ slice_index counts other)
    ⊎ ((slice_index (slice_set counts one n) other ≡ n) × (one ≡ other))
number_set [] one other n = inl refl
number_set (m ∷ counts) zero zero n = inr (refl, refl)
number_set (m ∷ counts) zero (suc other) n = inl refl
number_set (m ∷ counts) (suc one) zero n = inl refl
number_set (m ∷ counts) (suc one) (suc other) n =
    ⊎_elim (λ e. inl e) (λ e. inr (e.0, ap suc e.1)) (number_set counts one other n)

-- all of them, where so many of them are looked at
pub all_of : (P : Sending → Type 0) (sendings : List Sending) (count : ℕ) → length sendings ≤ count
    → All P (take count sendings) → All P sendings
all_of P sendings count past all = subst (All P) (take_all count sendings past) all

-- ---- how many a node has sent to another

abbrev nobody : QueueTraffic
nobody = record { flights = []; counts = [] }

abbrev there : List QueueTraffic → ℕ → QueueTraffic
there queues to = unwrap_or (slice_get queues to) nobody

abbrev traffic : List QueueTraffic → List Rule → Traffic
traffic queues rules = record { queues = queues; rules = rules }

abbrev IsOrNext : ℕ → ℕ → Type 0
IsOrNext before after = (after ≡ before) ⊎ (after ≡ capped (before + 1))

counted_at : (counts : List ℕ) (one other : ℕ)
    → IsOrNext (slice_index counts other) (slice_index (counted counts one) other)
counted_at counts one other =
    ⊎_elim (λ e. inl e)
    (λ e. inr (e.0 ∙ ap (λ (k : ℕ). capped (slice_index counts k + 1)) e.1))
    (number_set counts one other (capped (slice_index counts one + 1)))

-- where a packet is sent
count_next : (queues : List QueueTraffic) (rules : List Rule) (sending other : Sending) (round : ℕ)
    → IsOrNext (slice_index (there queues other.to).counts other.from)
    (slice_index
    (there (traffic_sent sending.from sending.to sending.packet round (traffic queues rules)).queues other.to).counts
    other.from)
count_next queues rules sending other round =
    ⊎_elim (λ e. inl (ap (λ (q : QueueTraffic). slice_index q.counts other.from) e))
    (λ e. ⊎_elim
    (λ same. inl (ap (λ (q : QueueTraffic). slice_index q.counts other.from) e.0
    ∙ (same ∙ ap (λ (to : ℕ). slice_index (there queues to).counts other.from) e.1)))
    (λ next. inr (ap (λ (q : QueueTraffic). slice_index q.counts other.from) e.0
    ∙ (next ∙ ap (λ (to : ℕ). capped (slice_index (there queues to).counts other.from + 1)) e.1)))
    (counted_at (there queues sending.to).counts sending.from other.from))
    (set_at nobody queues sending.to other.to
    (queue_sent rules sending.from sending.to sending.packet round (there queues sending.to)))

-- ---- the numbers of packets still to be sent

at_once : (n m : ℕ) → min (n + 1) m ≡ min (min (n + 1) m + 0) m
at_once n m = omega arith

one_later : (n ahead m : ℕ) → min (min (min (n + 1) m + 1) m + ahead) m ≡ min (min (n + 1) m + (ahead + 1)) m
one_later n ahead m = omega arith

-- the numbers of so many lie between that of the next one and that of the one behind them
pub not_before : (n ahead m : ℕ) → min (n + 1) m ≤ min (min (n + 1) m + ahead) m
not_before n ahead m = omega arith

pub not_behind : (n ahead count m : ℕ) → ahead < count → min (min (n + 1) m + ahead) m ≤ min (min (n + 1) m + count) m
not_behind n ahead count m less = omega (arith, less)

-- behind one that is sent, one packet less is to come
free_next : (rules : List Rule) (queues : List QueueTraffic) (sending other : Sending) (round count : ℕ)
    → IsFree (traffic queues rules) (suc count) other
    → IsFree (with_rules rules (traffic_sent sending.from sending.to sending.packet round (traffic queues []))) count other
free_next rules queues sending other round count free ahead less =
    ⊎_elim
    (λ same. fate (capped (after + 1)) (capped (before + 1)) ahead ahead
    (ap (λ (n : ℕ). capped (capped (n + 1) + ahead)) same) (free ahead (omega (arith, less))))
    (λ next. fate (capped (after + 1)) (capped (before + 1)) ahead (ahead + 1)
    (ap (λ (n : ℕ). capped (capped (n + 1) + ahead)) next ∙ one_later before ahead MAX_COUNT)
    (free (ahead + 1) (omega (arith, less))))
    (count_next queues [] sending other round)
  where
    before : ℕ
    before = slice_index (there queues other.to).counts other.from

    after : ℕ
    after =
        slice_index
        (there (traffic_sent sending.from sending.to sending.packet round (traffic queues [])).queues other.to).counts
        other.from

    fate : (m n i j : ℕ) → capped (m + i) ≡ capped (n + j)
        → fate_of rules other.from other.to (capped (n + j)) ≡ plain_fate
        → fate_of rules other.from other.to (capped (m + i)) ≡ plain_fate
    fate m n i j same is = ap (fate_of rules other.from other.to) same ∙ is

-- where no rule is for any of them, they are sent as if there were none
pub free_sent : (rules : List Rule) (round : ℕ) (sendings : List Sending) (queues : List QueueTraffic)
    → All (IsFree (traffic queues rules) (length sendings)) sendings
    → all_sent round sendings (traffic queues rules) ≡ by_no_rule round sendings (traffic queues rules)
free_sent rules round [] queues free = refl
free_sent rules round (s ∷ sendings) queues free =
    ap (all_sent round sendings) first
    ∙ free_sent rules round sendings next.queues
    (All-weaker (IsFree (traffic queues rules) (suc (length sendings))) (IsFree (traffic next.queues rules) (length sendings))
    (λ other has. free_next rules queues s other round (length sendings) has) sendings
    (All-tail (IsFree (traffic queues rules) (suc (length sendings))) s sendings free))
  where
    next : Traffic
    next = traffic_sent s.from s.to s.packet round (traffic queues [])

    queue : QueueTraffic
    queue = there queues s.to

    fate : fate_of rules s.from s.to (nth_in queue.counts s.from) ≡ plain_fate
    fate =
        ap (fate_of rules s.from s.to) (at_once (slice_index queue.counts s.from) MAX_COUNT)
        ∙ All-head (IsFree (traffic queues rules) (suc (length sendings))) s sendings free 0 (omega arith)

    first : traffic_sent s.from s.to s.packet round (traffic queues rules) ≡ traffic next.queues rules
    first =
        ap (λ (f : Fate). let sent : QueueTraffic = record {
          flights = queue.flights ++ flights_of f s.packet round;
          counts = counted queue.counts s.from;
        } in traffic (slice_set queues s.to sent) rules) fate

-- ---- where no rule is armed, and where a packet is gone

pub all_free : (now : Traffic) (count : ℕ) (sendings : List Sending) → now.rules ≡ [] → All (IsFree now count) sendings
all_free now count sendings none k d within ahead less =
    let s = get_or sendings k d in
    ap (λ (rules : List Rule). fate_of rules s.from s.to (number_of now ahead s)) none

-- one that was looked at, by its queue
pub free_here : (queues : List QueueState) (rules : List Rule) (count : ℕ) (s : Sending) (queue : QueueState)
    → s.to < length queues → queue ≡ get_or queues s.to queue
    → ((ahead : ℕ) → ahead < count
    → fate_of rules s.from s.to (capped (nth_in queue.counts s.from + ahead)) ≡ plain_fate)
    → IsFree (ruled rules queues) count s
free_here queues rules count s queue within is free ahead less =
    ap (λ (q : QueueTraffic). fate_of rules s.from s.to (capped (nth_in q.counts s.from + ahead)))
    (seen_at (record { queues = queues; rules = rules }) s.to
    ∙ ap queue_traffic
    (unwrap_or-slice_get queues s.to none ∙ (get_or_default queues s.to none queue within ∙ sym is)))
    ∙ free ahead less
  where
    none : QueueState
    none = record { flights = []; counts = []; room = 0 }

same_counts : (now : Traffic) (to place other : ℕ)
    → (traffic_at (traffic_without now to place) other).counts ≡ (traffic_at now other).counts
same_counts now to place other =
    ⊎_elim (λ e. ap (λ (q : QueueTraffic). q.counts) e)
    (λ e. ap (λ (q : QueueTraffic). q.counts) e.0 ∙ ap (λ (k : ℕ). (traffic_at now k).counts) e.1)
    (set_at nobody now.queues to other
    (record { flights = remove (traffic_at now to).flights place; counts = (traffic_at now to).counts }))

pub still_free : (now : Traffic) (to place count : ℕ) (sendings : List Sending) → All (IsFree now count) sendings
    → All (IsFree (traffic_without now to place) count) sendings
still_free now to place count sendings free =
    All-weaker (IsFree now count) (IsFree (traffic_without now to place) count)
    (λ s has ahead less. ap (λ (counts : List ℕ). fate_of now.rules s.from s.to (capped (nth_in counts s.from + ahead)))
    (same_counts now to place s.to) ∙ has ahead less) sendings free
