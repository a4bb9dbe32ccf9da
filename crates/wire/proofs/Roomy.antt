-- Packets that go straight into the queues, with room for them.
use Rattle.std.proofs.Common.{◌≡◌, ℕ, zero, suc, ◌+◌, ◌<◌, ◌≤◌, List, [], ◌∷◌, length, take, get_or, arith, refl, ap, subst, All}
use Rattle.std.specs.Prelude.{slice_set}
use Rattle.std.proofs.lemmas.List.Elements.{All-more, All-rest, All-weaker}
use Rattle.wire.specs.declared.sending.Sending.{Sending}
use Rattle.wire.specs.Queue.{QueueState}
use Rattle.wire.specs.RoomFor.{FindsRoom, room_in}

-- one queue has less room than before by no more than so many places, and so has each
pub room_kept : (queues : List QueueState) (node : ℕ) (d later : QueueState) (less : ℕ) → node < length queues
    → (get_or queues node d).room ≤ later.room + less → (count other : ℕ) → count + less ≤ room_in queues other
    → count ≤ room_in (slice_set queues node later) other
room_kept [] node d later less within room count other has = absurd (omega (arith, within))
room_kept (q ∷ queues) zero d later less within room count zero has = omega (arith, room, has)
room_kept (q ∷ queues) zero d later less within room count (suc other) has = omega (arith, has)
room_kept (q ∷ queues) (suc node) d later less within room count zero has = omega (arith, has)
room_kept (q ∷ queues) (suc node) d later less within room count (suc other) has =
    room_kept queues node d later less (omega (arith, within)) room count other has

-- the room of the one that changes
pub room_set : (queues : List QueueState) (node : ℕ) (later : QueueState) → node < length queues
    → room_in (slice_set queues node later) node ≡ later.room
room_set [] node later within = absurd (omega (arith, within))
room_set (q ∷ queues) zero later within = refl
room_set (q ∷ queues) (suc node) later within = room_set queues node later (omega (arith, within))

-- one more of them finds room
pub room_more : (queues : List QueueState) (packets : List Sending) (i : ℕ) (d later : QueueState) (sending : Sending)
    → sending.to < length queues → i < length packets → sending ≡ get_or packets i sending
    → (get_or queues sending.to d).room ≤ later.room → length packets ≤ later.room
    → All (FindsRoom queues (length packets)) (take i packets)
    → All (FindsRoom (slice_set queues sending.to later) (length packets)) (take (i + 1) packets)
room_more queues packets i d later sending within less is more enough so_far =
    All-more found packets i sending less
    (All-weaker (FindsRoom queues (length packets)) found
    (λ other has. room_kept queues sending.to d later 0 within (omega (arith, more)) (length packets) other.to
    (omega (arith, has)))
    (take i packets) so_far)
    (subst found is here)
  where
    found : Sending → Type 0
    found = FindsRoom (slice_set queues sending.to later) (length packets)

    here : found sending
    here = let same = room_set queues sending.to later within in omega (arith, same, enough)

-- where one is sent, there is room for the others
pub room_after : (before after : List QueueState) (sending : Sending) (whole more : List Sending)
    → whole ≡ sending ∷ more
    → ((count : ℕ) (other : Sending) → FindsRoom before (count + 1) other → FindsRoom after count other)
    → All (FindsRoom before (length whole)) whole → All (FindsRoom after (length more)) more
room_after before after sending whole more is one room =
    All-weaker (FindsRoom before (length whole)) (FindsRoom after (length more))
    (λ other has. one (length more) other
    (subst (λ (n : ℕ). FindsRoom before n other)
    (let longer : length whole ≡ length more + 1 = omega (arith, many) in longer) has))
    more (All-rest (FindsRoom before (length whole)) sending more whole is room)
  where
    many : length whole ≡ length (sending ∷ more)
    many = ap (length {A = Sending}) is
