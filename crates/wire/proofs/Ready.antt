-- What was made ready to be sent, and the room for it.
use Rattle.std.proofs.Common.{◌≡◌, ℕ, zero, suc, ◌<◌, ◌≤◌, List, [], ◌∷◌, length, map, refl, sym, ap, ◌∙◌, arith}
use Rattle.std.proofs.Common.{unwrap_or, slice_get, All, get_or, ⊎_elim, inl, inr}
use Rattle.std.specs.Prelude.{remove, slice_set}
use Rattle.std.specs.List.{AllZip}
use Rattle.std.proofs.lemmas.List.{get_or_default, length-map, map-set}
use Rattle.std.proofs.lemmas.List.Elements.{All-weaker}
use Rattle.std.proofs.lemmas.Option.{unwrap_or-slice_get}
use Rattle.wire.specs.declared.queue.TheConstants.{NODES}
use Rattle.wire.specs.declared.sending.Sending.{Sending}
use Rattle.wire.specs.Queue.{QueueState, without}
use Rattle.wire.specs.Wire.{WireState, queue_at}
use Rattle.wire.specs.Traffic.{QueueTraffic, Traffic, AreNodes, all_sent}
use Rattle.wire.specs.Traffic.{traffic_at, traffic_without}
use Rattle.wire.specs.RoomFor.{FindsRoom, room_in}
use Rattle.wire.specs.Staging.{behind, unsent, BatchState, HasPlaces, HasRoom, HasRoomFor, HasNoLessRoom, IsReady}
use Rattle.wire.specs.Staging.{IsStaged, ruled}
use Rattle.wire.proofs.Free.{still_free}
use Rattle.wire.proofs.Staged.{all_sent_behind, nothing_behind}

-- each queue with itself
pub same_room : (queues : List QueueState) → AllZip HasNoLessRoom queues queues
same_room [] = tt
same_room (q ∷ queues) = (omega arith, same_room queues)

-- room that is there stays there, where each queue has no less
pub still_room : (olds news staged : List QueueState) → AllZip HasNoLessRoom olds news → AllZip HasRoom olds staged
    → AllZip HasRoom news staged
still_room [] [] staged more room = room
still_room [] (new ∷ news) staged more room = absurd more
still_room (old ∷ olds) [] staged more room = absurd more
still_room (old ∷ olds) (new ∷ news) [] more room = absurd room
still_room (old ∷ olds) (new ∷ news) (s ∷ staged) more room =
    let a = more.0 in let b = room.0 in (omega (arith, a, b), still_room olds news staged more.1 room.1)

pub more_then : (olds mids news : List QueueState) → AllZip HasNoLessRoom olds mids → AllZip HasNoLessRoom mids news
    → AllZip HasNoLessRoom olds news
more_then [] [] [] one two = tt
more_then [] [] (n ∷ news) one two = absurd two
more_then [] (m ∷ mids) news one two = absurd one
more_then (o ∷ olds) [] news one two = absurd one
more_then (o ∷ olds) (m ∷ mids) [] one two = absurd two
more_then (o ∷ olds) (m ∷ mids) (n ∷ news) one two =
    let a = one.0 in let b = two.0 in (omega (arith, a, b), more_then olds mids news one.1 two.1)

-- the room of each
more_in : (olds news : List QueueState) → AllZip HasNoLessRoom olds news → (node : ℕ)
    → room_in olds node ≤ room_in news node
more_in [] [] more node = omega arith
more_in [] (n ∷ news) more node = absurd more
more_in (o ∷ olds) [] more node = absurd more
more_in (o ∷ olds) (n ∷ news) more zero = more.0
more_in (o ∷ olds) (n ∷ news) more (suc node) = more_in olds news more.1 node

still_places : (olds news staged : List QueueState) → AllZip HasNoLessRoom olds news → HasPlaces olds staged
    → HasPlaces news staged
still_places olds news [] more room = room
still_places olds news (s ∷ staged) more room = still_room olds news (s ∷ staged) more room

-- and so there is room for a batch still
pub still_roomy : (olds news : List QueueState) (batch : BatchState) → AllZip HasNoLessRoom olds news
    → HasRoomFor olds batch → HasRoomFor news batch
still_roomy olds news batch more room = record {
  nodes = room.nodes;
  straight = All-weaker (FindsRoom olds (length batch.straight)) (FindsRoom news (length batch.straight))
      (λ sending has. (let there = more_in olds news more sending.to in omega (arith, there, has))) batch.straight
      room.straight;
  behind = still_places olds news batch.queues more room.behind;
}

-- one queue has more
pub set_room : (queues : List QueueState) (node : ℕ) (d later : QueueState) → node < length queues
    → (get_or queues node d).room ≤ later.room → AllZip HasNoLessRoom queues (slice_set queues node later)
set_room [] node d later within more = absurd (omega (arith, within))
set_room (q ∷ queues) zero d later within more = (more, same_room queues)
set_room (q ∷ queues) (suc node) d later within more =
    (omega arith, set_room queues node d later (omega (arith, within)) more)

-- what is sent, where it was ready
pub ready_sent : (traffic : Traffic) (round : ℕ) (sendings : List Sending) (staged : List QueueState)
    → length traffic.queues ≡ NODES → All AreNodes sendings → IsStaged traffic round sendings staged
    → behind traffic.queues (ruled traffic.rules staged) ≡ all_sent round sendings traffic
ready_sent traffic round sendings staged nodes all ready =
    ap (behind traffic.queues) ready
    ∙ (all_sent_behind traffic.queues round sendings
    (record { queues = map unsent traffic.queues; rules = traffic.rules }) (length-map traffic.queues unsent)
    (omega (arith, nodes)) all
    ∙ ap (λ (qs : List QueueTraffic). let t : Traffic = record { queues = qs; rules = traffic.rules } in
    all_sent round sendings t) (nothing_behind traffic.queues))

-- ---- a packet that is gone

abbrev none : QueueTraffic
none = record { flights = []; counts = [] }

unsent_set : (queues : List QueueTraffic) (node : ℕ) (later : QueueTraffic)
    → unsent later ≡ unsent (unwrap_or (slice_get queues node) none)
    → map unsent (slice_set queues node later) ≡ map unsent queues
unsent_set queues node later same =
    map-set unsent queues node later
    ∙ (ap (slice_set (map unsent queues) node) same ∙ at queues node)
  where
    at : (queues : List QueueTraffic) (node : ℕ)
        → slice_set (map unsent queues) node (unsent (unwrap_or (slice_get queues node) none)) ≡ map unsent queues
    at [] node = refl
    at (q ∷ queues) zero = refl
    at (q ∷ queues) (suc node) = ap (λ (qs : List QueueTraffic). unsent q ∷ qs) (at queues node)

-- what was sent before is counted, whether it is still in flight or not
pub still_staged : (traffic : Traffic) (to place round : ℕ) (sendings : List Sending) (staged : List QueueState)
    → IsStaged traffic round sendings staged → IsStaged (traffic_without traffic to place) round sendings staged
still_staged traffic to place round sendings staged ready =
    ready
    ∙ ap (λ (qs : List QueueTraffic). let t : Traffic = record { queues = qs; rules = traffic.rules } in
    all_sent round sendings t)
    (sym (unsent_set traffic.queues to
    (record { flights = remove (traffic_at traffic to).flights place; counts = (traffic_at traffic to).counts }) refl))

-- and so is a batch ready
pub still_ready : (traffic : Traffic) (to place round : ℕ) (sendings : List Sending) (batch : BatchState)
    → IsReady traffic round sendings batch → IsReady (traffic_without traffic to place) round sendings batch
still_ready traffic to place round sendings batch ready =
    ⊎_elim (λ straight. inl (still_free traffic to place (length sendings) sendings straight.0, straight.1, straight.2, straight.3))
    (λ queued. inr (queued.0, queued.1, still_staged traffic to place round sendings batch.queues queued.2)) ready

-- and there is no less room
pub gone_room : (wire : WireState) (to place : ℕ) (batch : BatchState) → to < length wire.queues
    → HasRoomFor wire.queues batch
    → HasRoomFor (slice_set wire.queues to (without (queue_at wire to) place)) batch
gone_room wire to place batch within room =
    still_roomy wire.queues (slice_set wire.queues to (without (queue_at wire to) place)) batch
    (set_room wire.queues to (queue_at wire to) (without (queue_at wire to) place) within
    (let same = ap (λ (q : QueueState). q.room)
    (sym (unwrap_or-slice_get wire.queues to nobody
    ∙ get_or_default wire.queues to nobody (queue_at wire to) within)) in
    omega (arith, same))) room
  where
    nobody : QueueState
    nobody = record { flights = []; counts = []; room = 0 }

-- a packet in flight to a node tells that there is a queue for it
pub there_below : (wire : WireState) (to place : ℕ) → place < length (queue_at wire to).flights
    → to < length wire.queues
there_below wire to place within = at wire.queues to within
  where
    at : (queues : List QueueState) (node : ℕ)
        → place < length (unwrap_or (slice_get queues node) (record { flights = []; counts = []; room = 0 })).flights
        → node < length queues
    at [] node less = absurd (omega (arith, less))
    at (q ∷ queues) zero less = omega arith
    at (q ∷ queues) (suc node) less = let more = at queues node less in omega (arith, more)
