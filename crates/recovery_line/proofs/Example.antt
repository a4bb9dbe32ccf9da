-- A run of two nodes: node 1 puts an item, node 0 gets it and starts an instance, and node 1 takes part.
use Rattle.std.proofs.Common.{◌≡◌, ◌⊎◌, inl, inr, ℕ, zero, suc, ◌<◌, ◌≤◌, Bool, true, false, Option, Some, None, []}
use Rattle.std.proofs.Common.{◌∷◌}
use Rattle.std.proofs.Common.{refl, sym, ap, subst, arith}
use Rattle.std.proofs.Math.Path.{fun_ext}
use Rattle.std.specs.Prelude.{◌≢◌}
use Rattle.recovery_line.specs.Images.{Image, Net, IsCross, IsLocal, blank}
use Rattle.recovery_line.specs.Records.{Record, new_record}
use Rattle.recovery_line.specs.Moves.{Takes}
use Rattle.recovery_line.specs.Nodes.{Answer, Awaited, By_took, Live, Mode, Down, Running, Work, Start, Conclude}
use Rattle.recovery_line.specs.Packets.{Packet, Ask, Took}
use Rattle.recovery_line.specs.Worlds.{World, InFlight, opening, MaySend, OnlyAt, Step, Acts, Comes, Send}
use Rattle.recovery_line.specs.Laws.{ReachesADecision}
use Rattle.recovery_line.proofs.Basics.{false_true, some_not_none, one_inside}
use Rattle.recovery_line.proofs.Starting.{may_begin}

-- one channel, from node 1 to node 0
abbrev producer_of : ℕ → Option ℕ
producer_of zero = Some 1
producer_of (suc c) = None

abbrev consumer_of : ℕ → Option ℕ
consumer_of zero = Some 0
consumer_of (suc c) = None

abbrev net : Net
net = record { producer = producer_of; consumer = consumer_of }

channel : IsCross net 0 1 0
channel = record { from = refl; to = refl; apart = λ same. false_true (ap is_zero same) }
  where
    is_zero : ℕ → Bool
    is_zero zero = true
    is_zero (suc n) = false

-- values of node 0, node 1 and all others
abbrev by_node : {A : Type 0} → A → A → A → ℕ → A
by_node a b c zero = a
by_node a b c (suc zero) = b
by_node a b c (suc (suc k)) = c

but_at_0 : {A : Type 0} → (a d b c : A) (j : ℕ) → j ≢ 0 → by_node d b c j ≡ by_node a b c j
but_at_0 a d b c zero other = absurd (other refl)
but_at_0 a d b c (suc zero) other = refl
but_at_0 a d b c (suc (suc j)) other = refl

but_at_1 : {A : Type 0} → (a b d c : A) (j : ℕ) → j ≢ 1 → by_node a d c j ≡ by_node a b c j
but_at_1 a b d c zero other = refl
but_at_1 a b d c (suc zero) other = absurd (other refl)
but_at_1 a b d c (suc (suc j)) other = refl

-- one at 0, and nothing else
abbrev one_at_0 : ℕ → ℕ
one_at_0 zero = 1
one_at_0 (suc c) = 0

abbrev is_one : ℕ → Bool
is_one zero = false
is_one (suc zero) = true
is_one (suc (suc n)) = false

abbrev names_node_1 : ℕ → ℕ → Bool
names_node_1 zero = λ p. false
names_node_1 (suc zero) = is_one
names_node_1 (suc (suc n)) = λ p. false

abbrev put : Image
put = record { received = λ c. 0; base = λ c. 0; sent = one_at_0 }

abbrev got : Image
got = record { received = one_at_0; base = λ c. 0; sent = λ c. 0 }

abbrev taken : Image → Record
taken image =
    record {
      highest = one_at_0;
      decided = λ n. false;
      named = λ n p. false;
      permanent = blank;
      tentative =
          Some (record { initiator = 0; number = 1; image = image });
    }

abbrev decided : Record
decided = record { highest = one_at_0; decided = is_one; named = names_node_1; permanent = got; tentative = None }

abbrev asks_by : Answer → ℕ → Option (ℕ × Answer)
asks_by answer zero = Some (1, answer)
asks_by answer (suc c) = None

abbrev waiting : Live
waiting = record { number = 1; asks = asks_by Awaited; takes = λ p. false; place = λ p. 0 }

abbrev ready : Live
ready = record { number = 1; asks = asks_by By_took; takes = is_one; place = λ p. 0 }

abbrev idle : Mode
idle = Running blank None

abbrev nothing_sent : ℕ → Option Packet
nothing_sent place = None

abbrev just : Packet → ℕ → Option Packet
just packet zero = Some packet
just packet (suc place) = None

abbrev world : Record → Record → Mode → Mode → (ℕ → Option Packet) → World
world r s m n flight =
    record { records = by_node r s new_record; modes = by_node m n idle; outlets = λ c. 0; flight = flight }

abbrev ask : Packet
ask = Ask 0 1 0 1

abbrev took : Packet
took = Took 0 1 0 1 (λ c. None)

abbrev w0 : World
w0 = world new_record new_record idle idle nothing_sent

abbrev w1 : World
w1 = world new_record new_record idle (Running put None) nothing_sent

abbrev w2 : World
w2 = world new_record new_record (Running got None) (Running put None) nothing_sent

abbrev w3 : World
w3 = world (taken got) new_record (Running got (Some waiting)) (Running put None) nothing_sent

abbrev w4 : World
w4 = world (taken got) new_record (Running got (Some waiting)) (Running put None) (just ask)

abbrev w5 : World
w5 = world (taken got) (taken put) (Running got (Some waiting)) (Running put None) (just ask)

abbrev w6 : World
w6 = world (taken got) (taken put) (Running got (Some waiting)) (Running put None) (just took)

abbrev w7 : World
w7 = world (taken got) (taken put) (Running got (Some ready)) (Running put None) (just took)

abbrev w8 : World
w8 = world decided (taken put) (Running got None) (Running put None) (just took)

at_0 : (r r' s : Record) (m m' n : Mode) (flight : ℕ → Option Packet)
    → OnlyAt (world r s m n flight) (world r' s m' n flight) 0
at_0 r r' s m m' n flight =
    record { records = but_at_0 r r' s new_record; modes = but_at_0 m m' n idle; flight = λ packet is. is }

at_1 : (r s s' : Record) (m n n' : Mode) (flight : ℕ → Option Packet)
    → OnlyAt (world r s m n flight) (world r s' m n' flight) 1
at_1 r s s' m n n' flight =
    record { records = but_at_1 r s s' new_record; modes = but_at_1 m n n' idle; flight = λ packet is. is }

-- the opening world, node by node
opens : opening ≡ w0
opens = rw (fun_ext all_new, fun_ext all_idle) refl
  where
    all_new : (k : ℕ) → by_node new_record new_record new_record k ≡ new_record
    all_new zero = refl
    all_new (suc zero) = refl
    all_new (suc (suc k)) = refl

    all_idle : (k : ℕ) → by_node idle idle idle k ≡ idle
    all_idle zero = refl
    all_idle (suc zero) = refl
    all_idle (suc (suc k)) = refl

puts : Step net w0 w1
puts = Acts 1 (at_1 new_record new_record new_record idle idle (Running put None) nothing_sent)
    (Work blank put None (record {
      same = record { disk = refl; outlets = refl };
      was = refl;
      now = refl;
      received = λ c. omega arith;
      base = λ c. inl refl;
      sent = λ c. omega arith;
      local = λ c is. omega arith;
    }))

gets : Step net w1 w2
gets = Acts 0 (at_0 new_record new_record new_record idle (Running got None) (Running put None) nothing_sent)
    (Work blank got None (record {
      same = record { disk = refl; outlets = refl };
      was = refl;
      now = refl;
      received = λ c. omega arith;
      base = λ c. inl refl;
      sent = λ c. omega arith;
      local = local;
    }))
  where
    local : (c : ℕ) → IsLocal net c 0 → one_at_0 c ≤ 0
    local zero is = absurd (channel.apart (one_inside {o = Some 1} refl is.from))
    local (suc c) is = omega arith

takes : (image : Image) → Takes new_record (taken image) 0 1 image
takes image =
    record {
      free = refl;
      new = omega arith;
      holds = refl;
      highest = refl;
      others = others;
      permanent = refl;
      decided =
          refl;
      named = refl;
    }
  where
    others : (y : ℕ) → y ≢ 0 → one_at_0 y ≡ 0
    others zero other = absurd (other refl)
    others (suc y) other = refl

starts : Step net w2 w3
starts =
    Acts 0 (at_0 new_record (taken got) new_record (Running got None) (Running got (Some waiting)) (Running put None)
    nothing_sent) (Start got waiting (record {
      was = refl;
      number = refl;
      takes = takes got;
      asks = record { each = each; only = only };
      nobody = λ p is. false_true is;
      now = refl;
      outlets = refl;
    }))
  where
    each : (c p : ℕ) → IsCross net c p 0 → 0 < one_at_0 c → asks_by Awaited c ≡ Some (one_at_0 c, Awaited)
    each zero p cross above = refl
    each (suc c) p cross above = absurd (some_not_none refl cross.from)

    only : (c m : ℕ) (answer : Answer) → asks_by Awaited c ≡ Some (m, answer)
        → (p : ℕ) × IsCross net c p 0 × (m ≡ one_at_0 c) × (answer ≡ Awaited)
    only zero m answer asked = (
      1,
      channel,
      ap (λ (pair : ℕ × Answer). pair.0) (one_inside asked refl),
      ap (λ (pair : ℕ × Answer). pair.1)
          (one_inside asked refl),
    )
    only (suc c) m answer asked = absurd (some_not_none refl asked)

-- one packet is sent, and the others are lost
sends : (r s : Record) (m n : Mode) (flight : ℕ → Option Packet) (packet : Packet)
    → MaySend net (world r s m n flight) packet → Step net (world r s m n flight) (world r s m n (just packet))
sends r s m n flight packet may =
    Send (record { records = refl; modes = refl; outlets = refl; flight = λ other is. sent other is.0 is.1 })
  where
    sent : (other : Packet) (place : ℕ) → just packet place ≡ Some other
        → InFlight (world r s m n flight) other ⊎ MaySend net (world r s m n flight) other
    sent other zero is = inr (subst (λ (p : Packet). MaySend net (world r s m n flight) p) (one_inside refl is) may)
    sent other (suc place) is = absurd (some_not_none refl is)

asks : Step net w3 w4
asks = sends (taken got) new_record (Running got (Some waiting)) (Running put None) nothing_sent ask
    (record { live = waiting; is = refl; number = refl; asked = refl })

takes_part : Step net w4 w5
takes_part =
    Comes 1 ask (0, refl)
    (at_1 (taken got) new_record (taken put) (Running got (Some waiting)) (Running put None) (Running put None)
    (just ask)) (record {
      to = 0;
      cross = channel;
      current = put;
      live = None;
      running = refl;
      above = omega arith;
      within = omega arith;
      takes = takes put;
      mode = refl;
      outlets = refl;
    })

is_up : (current : Image) (live : Option Live) → Running current live ≢ Down
is_up current live down = false_true (ap stopped (sym down))
  where
    stopped : Mode → Bool
    stopped Down = false
    stopped m = true

answers : Step net w5 w6
answers = sends (taken got) (taken put) (Running got (Some waiting)) (Running put None) (just ask) took (record {
  node = 1;
  to = 0;
  image = put;
  cross = channel;
  up = is_up put None;
  asked = (0, refl);
  held = refl;
  above = omega arith;
  within = omega arith;
  needs_of =
      record { each = λ c r cross above. absurd (omega arith); only = λ c m need. absurd (some_not_none refl need) };
})

hears : Step net w6 w7
hears = Comes 0 took (0, refl)
    (at_0 (taken got) (taken got) (taken put) (Running got (Some waiting)) (Running got (Some ready))
    (Running put None) (just took)) (
      refl,
      record {
        from = 1;
        to = 0;
        cross = channel;
        current = got;
        own = got;
        before = waiting;
        later = ready;
        same = record { disk = refl; outlets = refl };
        was = refl;
        now = refl;
        held = refl;
        number = refl;
        number_same = refl;
        count = 1;
        answer = Awaited;
        asked = refl;
        answered = refl;
        asks_kept = kept;
        asks_new = new;
        met = λ d r j cross need. absurd (some_not_none refl need);
        takes = refl;
        takes_others = others;
        places = λ p is. refl;
        last = inr (λ p is. absurd (false_true is));
      },
    )
  where
    kept : (d j : ℕ) (answer : Answer) → d ≢ 0 → asks_by Awaited d ≡ Some (j, answer)
        → asks_by By_took d ≡ Some (j, answer)
    kept zero j answer other asked = absurd (other refl)
    kept (suc d) j answer other asked = absurd (some_not_none refl asked)

    new : (d j : ℕ) (answer : Answer) → d ≢ 0 → asks_by By_took d ≡ Some (j, answer)
        → (asks_by Awaited d ≡ Some (j, answer)) ⊎ ((None ≡ Some j) × (answer ≡ Awaited) × (producer_of d ≢ Some 0))
    new zero j answer other asked = absurd (other refl)
    new (suc d) j answer other asked = absurd (some_not_none refl asked)

    others : (p : ℕ) → p ≢ 1 → is_one p ≡ false
    others zero other = refl
    others (suc zero) other = absurd (other refl)
    others (suc (suc p)) other = refl

concludes : Step net w7 w8
concludes =
    Acts 0 (at_0 (taken got) decided (taken put) (Running got (Some ready)) (Running got None) (Running put None)
    (just took)) (Conclude got got ready (record {
      was = refl;
      answered = answered;
      decides = record {
        held = refl;
        permanent = refl;
        free = refl;
        highest = refl;
        decided = λ p is. refl;
        alone = λ none. absurd (false_true (sym (none 1)));
        named = λ p. refl;
        others = others;
      };
      now = refl;
      outlets = refl;
    }))
  where
    answered : (c m : ℕ) → asks_by By_took c ≢ Some (m, Awaited)
    answered zero m asked = let wrong = ap (λ (pair : ℕ × Answer). pair.1) (one_inside refl asked) in cc wrong
    answered (suc c) m asked = some_not_none refl asked

    others : (m : ℕ) → m ≢ 1 → (is_one m ≡ false) × (names_node_1 m ≡ (λ p. false))
    others zero other = (refl, refl)
    others (suc zero) other = absurd (other refl)
    others (suc (suc m)) other = (refl, refl)

pub reaches_a_decision : ReachesADecision
reaches_a_decision = (
  net,
  w8,
  0,
  1,
  1,
  record {
    start = opening;
    may = may_begin net;
    worlds = w1 ∷ w2 ∷ w3 ∷ w4 ∷ w5 ∷ w6 ∷ w7 ∷ w8 ∷ [];
    run = (rw opens puts, (gets, (starts, (asks, (takes_part, (answers, (hears, (concludes, refl))))))));
  },
  refl,
  refl,
  channel.apart,
)
