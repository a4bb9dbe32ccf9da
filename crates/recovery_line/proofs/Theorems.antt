-- The theorems of runs, from what every reachable world keeps.
use Rattle.std.proofs.Common.{◌≡◌, ◌⊎◌, inl, inr, ℕ, zero, suc, ◌<◌, ◌≤◌, Bool, true, false, Option, Some, None, List}
use Rattle.std.proofs.Common.{[], ◌∷◌, refl, sym, ap, ◌∙◌, subst, arith}
use Rattle.std.specs.Prelude.{◌≢◌}
use Rattle.recovery_line.specs.Images.{Image, Net}
use Rattle.recovery_line.specs.Records.{Tentative, Record, Holds, effective}
use Rattle.recovery_line.specs.Nodes.{Awaited, Live}
use Rattle.recovery_line.specs.Packets.{Packet, Ask, Ended}
use Rattle.recovery_line.specs.Worlds.{World, node_of, IsLive, InFlight, MaySend, Step, Acts, Comes, Send, Run}
use Rattle.recovery_line.specs.Starts.{Reachable}
use Rattle.recovery_line.specs.Line.{Sound, Covers, NotBehind, Over, AtMoment, line_with, NoOrphan}
use Rattle.recovery_line.specs.Invariant.{IsImageOf, Permanent, Held, NeedOf, LiveOk, Says, Consistent}
use Rattle.recovery_line.specs.Laws.{AtMostOneMove, IsReceived, NamesTheNeeded, Needed, Wanted, WantedBefore}
use Rattle.recovery_line.proofs.Basics.{false_true, either, same_or_other, at_most_itself, at_most_next}
use Rattle.recovery_line.proofs.Basics.{some_not_none, effective_free, effective_committed, effective_open}
use Rattle.recovery_line.proofs.OneNode.{node_step_grows}
use Rattle.recovery_line.proofs.Grows.{Grows, Fate, Stays, Settles, Goes, over_stays, stays_true}
use Rattle.recovery_line.proofs.Deciding.{after_permanent}
use Rattle.recovery_line.proofs.Starting.{starts}
use Rattle.recovery_line.proofs.Stepping.{advances, hears_outlets, step_consistent}
use Rattle.recovery_line.proofs.Sending.{is_true_when_sent}
use Rattle.recovery_line.proofs.Moving.{moves_at_most_once}

pub run_consistent : (net : Net) (w v : World) (worlds : List World) → Consistent net w → Run net w worlds v
    → Consistent net v
run_consistent net w v [] ok run = rw (← run) ok
run_consistent net w v (u ∷ worlds) ok run = run_consistent net u v worlds (step_consistent net w u ok run.0) run.1

pub is_consistent : (net : Net) (w : World) → Reachable net w → Consistent net w
is_consistent net w reachable =
    run_consistent net reachable.start w reachable.worlds (starts net reachable.start reachable.may) reachable.run

pub run_stays_true : (net : Net) (w v : World) (worlds : List World) (packet : Packet) → Consistent net w
    → Run net w worlds v → Says net w packet → Says net v packet
run_stays_true net w v [] packet ok run says = rw (← run) says
run_stays_true net w v (u ∷ worlds) packet ok run says =
    run_stays_true net u v worlds packet (step_consistent net w u ok run.0) run.1
    (stays_true net w u ok.agreed.highest (advances net w u ok run.0).grows packet says)

-- the line

-- a fact that holds before a step and after it holds at each moment inside
at_each_moment : (P : (ℕ → Record) → (ℕ → ℕ) → Type 0) (w v : World) (records : ℕ → Record) (outlets : ℕ → ℕ)
    → P w.records w.outlets → P v.records v.outlets → AtMostOneMove w v → AtMoment w v records outlets
    → P records outlets
at_each_moment P w v records outlets before after moves at = go at.of_records at.of_outlets
  where
    go : (records ≡ w.records) ⊎ (records ≡ v.records) → (outlets ≡ w.outlets) ⊎ (outlets ≡ v.outlets)
        → P records outlets
    go (inl one) (inl two) = rw (one, two) before
    go (inr one) (inr two) = rw (one, two) after
    go (inl one) (inr two) =
        rw (one, two) (elim moves.either [ inl same ↦ rw (← same) after | inr same ↦ rw same before ])
    go (inr one) (inl two) =
        rw (one, two) (elim moves.either [ inl same ↦ rw same before | inr same ↦ rw (← same) after ])

-- an effective image is one of the node's
effective_is : (net : Net) (w : World) (k : ℕ) → Consistent net w → IsImageOf (node_of w k) (effective w.records k)
effective_is net w k ok = go (w.records k).tentative refl
  where
    go : (o : Option Tentative) → (w.records k).tentative ≡ o → IsImageOf (node_of w k) (effective w.records k)
    go None free = Permanent (sym (effective_free w.records k free))
    go (Some t) held = elim (either ((w.records t.initiator).decided t.number)) [
      | inl now ↦ Held t.initiator t.number
          (rw (effective_committed w.records k t.initiator t.number t.image held now) held)
      | inr never ↦ Permanent (sym (effective_open w.records k t.initiator t.number t.image held never))
    ]

sound_line : (net : Net) (w : World) → Consistent net w → Sound net (effective w.records) w.outlets
sound_line net w ok = record {
  no_orphan = λ c p q from to. elim (same_or_other p q) [
    | inl same ↦ rw same
        ((ok.nodes q).local c (effective w.records q) (record { from = rw same at from; to = to })
        (effective_is net w q ok)).1
    | inr apart ↦ ok.agreed.no_orphan c p q (record { from = from; to = to; apart = apart })
  ];
  nothing_lost = λ c p q from to. elim (same_or_other p q) [
    | inl same ↦ rw same
        ((ok.nodes q).local c (effective w.records q) (record { from = rw same at from; to = to })
        (effective_is net w q ok)).0
    | inr apart ↦
        let one =
        ok.logs c p q (effective w.records p) (record { from = from; to = to; apart = apart })
        (effective_is net w p ok) in
        let two = (after_permanent net w ok.nodes q c).0 in
        omega arith
  ];
  outputs = λ c p is. (ok.nodes p).output c (effective w.records p) is (effective_is net w p ok);
}

covering_line : (net : Net) (w : World) → Consistent net w → Covers net w.records w.outlets
covering_line net w ok = record {
  by_line = λ c p is. let one = (ok.nodes p).covered c is in let two = (after_permanent net w ok.nodes p c).2 in
      omega arith;
  by_permanent = λ c p is. (ok.nodes p).covered c is;
}

pub line_is_sound : (net : Net) (w v : World) (records : ℕ → Record) (outlets : ℕ → ℕ) → Reachable net w → Step net w v
    → AtMoment w v records outlets → Sound net (effective records) outlets
line_is_sound net w v records outlets reachable step at =
    let ok = is_consistent net w reachable in
    at_each_moment (λ r o. Sound net (effective r) o) w v records outlets (sound_line net w ok)
    (sound_line net v (step_consistent net w v ok step)) (moves_at_most_once net w v step) at

pub line_covers : (net : Net) (w v : World) (records : ℕ → Record) (outlets : ℕ → ℕ) → Reachable net w → Step net w v
    → AtMoment w v records outlets → Covers net records outlets
line_covers net w v records outlets reachable step at =
    let ok = is_consistent net w reachable in
    at_each_moment (λ r o. Covers net r o) w v records outlets (covering_line net w ok)
    (covering_line net v (step_consistent net w v ok step)) (moves_at_most_once net w v step) at

not_behind_itself : (records : ℕ → Record) → NotBehind records records
not_behind_itself records k = at_most_itself (effective records k)

not_behind_next : (one two three : ℕ → Record) → NotBehind one two → NotBehind two three → NotBehind one three
not_behind_next one two three first second k =
    at_most_next (effective one k) (effective two k) (effective three k) (first k) (second k)

-- no step shortens an outlet
outlets_grow : (net : Net) (w v : World) → Consistent net w → Step net w v → (c : ℕ) → w.outlets c ≤ v.outlets c
outlets_grow net w v ok (Acts k at s) c = (node_step_grows net k (node_of w k) (node_of v k) (ok.nodes k) s).1 c
outlets_grow net w v ok (Comes k packet flight at s) c = let same =
    ap (λ (f : ℕ → ℕ). f c) (hears_outlets net k packet (node_of w k) (node_of v k) s) in omega arith
outlets_grow net w v ok (Send s) c = let same = ap (λ (f : ℕ → ℕ). f c) s.outlets in omega arith

run_never_falls_back : (net : Net) (w v : World) (worlds : List World) → Consistent net w → Run net w worlds v
    → NotBehind w.records v.records × ((c : ℕ) → w.outlets c ≤ v.outlets c)
run_never_falls_back net w v [] ok run = rw (← run) (not_behind_itself w.records, λ c. omega arith)
run_never_falls_back net w v (u ∷ worlds) ok run =
    let later = run_never_falls_back net u v worlds (step_consistent net w u ok run.0) run.1 in (
      not_behind_next w.records u.records v.records (advances net w u ok run.0).grows.line later.0,
      λ c. let one =
          outlets_grow net w u ok run.0 c in let two = later.1 c in omega arith,
    )

pub line_never_falls_back : (net : Net) (w u v : World) (worlds : List World) (records : ℕ → Record) (outlets : ℕ → ℕ)
    → Reachable net w → Run net w worlds u → Step net u v → AtMoment u v records outlets
    → NotBehind w.records records × ((c : ℕ) → w.outlets c ≤ outlets c)
line_never_falls_back net w u v worlds records outlets reachable run step at =
    (line at.of_records, released at.of_outlets)
  where
    here : Consistent net w
    here = is_consistent net w reachable

    there : Consistent net u
    there = run_consistent net w u worlds here run

    sofar : NotBehind w.records u.records × ((c : ℕ) → w.outlets c ≤ u.outlets c)
    sofar = run_never_falls_back net w u worlds here run

    line : (records ≡ u.records) ⊎ (records ≡ v.records) → NotBehind w.records records
    line (inl before) = rw before sofar.0
    line (inr after) =
        rw after (not_behind_next w.records u.records v.records sofar.0 (advances net u v there step).grows.line)

    released : (outlets ≡ u.outlets) ⊎ (outlets ≡ v.outlets) → (c : ℕ) → w.outlets c ≤ outlets c
    released (inl before) c = rw before (sofar.1 c)
    released (inr after) c =
        rw after (let one = sofar.1 c in let two = outlets_grow net u v there step c in omega arith)

-- commitment

pub commits_while_held : (net : Net) (w v : World) (x n p : ℕ) → Reachable net w → Step net w v
    → (w.records x).decided n ≡ false → (v.records x).decided n ≡ true → (v.records x).named n p ≡ true
    → (i : Image) × Holds (w.records p) x n i × Holds (v.records p) x n i
commits_while_held net w v x n p reachable step never now named =
    elim ((advances net w v (is_consistent net w reachable) step).grows.committed x n now)
    [ inl before ↦ absurd (false_true (sym never ∙ before)) | inr was ↦ was.held p named ]

named_holder : (net : Net) (w : World) (x n p : ℕ) (i : Image) → Consistent net w → Holds (w.records p) x n i
    → (w.records x).decided n ≡ true → (p ≢ x) × ((w.records x).named n p ≡ true)
named_holder net w x n p i ok held decided = elim (same_or_other p x) [
  | inl this ↦ let one = (ok.nodes x).older n n i (rw this at held) decided in absurd (omega arith)
  | inr other ↦ (other, ok.agreed.holders x n p i other held decided)
]

pub holders_are_named : (net : Net) (w : World) (x n p : ℕ) (i : Image) → Reachable net w → Holds (w.records p) x n i
    → (w.records x).decided n ≡ true → (p ≢ x) × ((w.records x).named n p ≡ true)
holders_are_named net w x n p i reachable held decided =
    named_holder net w x n p i (is_consistent net w reachable) held decided

pub stays_committed : (net : Net) (w v : World) (x n p : ℕ) (i : Image) → Reachable net w → Step net w v
    → Holds (w.records p) x n i → (w.records x).decided n ≡ true
    → (Holds (v.records p) x n i × ((v.records x).decided n ≡ true))
    ⊎ (((v.records p).tentative ≡ None) × ((v.records p).permanent ≡ i))
stays_committed net w v x n p i reachable step held decided = go (g.fate p x n i held)
  where
    g : Grows net w v
    g = (advances net w v (is_consistent net w reachable) step).grows

    go : Fate w v p x n i
        → (Holds (v.records p) x n i × ((v.records x).decided n ≡ true))
        ⊎ (((v.records p).tentative ≡ None) × ((v.records p).permanent ≡ i))
    go (Stays still) =
        inl (still, (g.names x n p i decided (holders_are_named net w x n p i reachable held decided).1 still).0)
    go (Settles free now) = inr (free, now)
    go (Goes never) = absurd (false_true (sym never ∙ decided))

-- what is over

pub ended_is_over : (net : Net) (w : World) (x p n : ℕ) → Reachable net w
    → MaySend net w (Ended x p n) ⊎ InFlight w (Ended x p n) → Over w x n
ended_is_over net w x p n reachable (inl sends) =
    is_true_when_sent net w (Ended x p n) (is_consistent net w reachable) sends
ended_is_over net w x p n reachable (inr flight) = (is_consistent net w reachable).packets (Ended x p n) flight

run_over : (net : Net) (w v : World) (worlds : List World) (x n : ℕ) → Consistent net w → Run net w worlds v
    → Over w x n → Over v x n
run_over net w v [] x n ok run over = rw (← run) over
run_over net w v (u ∷ worlds) x n ok run over =
    run_over net u v worlds x n (step_consistent net w u ok run.0) run.1
    (over_stays net w u (advances net w u ok run.0).grows x n over)

pub stays_over : (net : Net) (w v : World) (worlds : List World) (x n : ℕ) → Reachable net w → Run net w worlds v
    → Over w x n → Over v x n
stays_over net w v worlds x n reachable run over = run_over net w v worlds x n (is_consistent net w reachable) run over

pub over_stays_out : (net : Net) (w v : World) (k : ℕ) → Reachable net w → Step net w v
    → ((v.records k).permanent ≡ (w.records k).permanent)
    ⊎ ((x : ℕ) × (n : ℕ) × Holds (w.records k) x n (v.records k).permanent × (Over w x n → ⊥))
over_stays_out net w v k reachable step = (advances net w v (is_consistent net w reachable) step).grows.replaced k

-- who is needed

in_line : (records : ℕ → Record) (part : ℕ → Bool) (k x n : ℕ) (i : Image) → part k ≡ true → Holds (records k) x n i
    → line_with records part k ≡ i
in_line records part k x n i inside held = rw (inside, held) refl

not_in_line : (records : ℕ → Record) (part : ℕ → Bool) (k : ℕ) → part k ≡ false
    → line_with records part k ≡ effective records k
not_in_line records part k outside = rw outside refl

-- by the places of the takers: the first one that is left out is missed by the initiator or by one that isn't
orphan_below : (net : Net) (records : ℕ → Record) (x : ℕ) (own : Image) (live : Live) (part : ℕ → Bool)
    → LiveOk net records x own live → part x ≡ true → NoOrphan net (line_with records part)
    → (bound p : ℕ) → live.place p < bound → live.takes p ≡ true → part p ≡ false → ⊥
orphan_below net records x own live part ok initiator sound zero p below takes left = omega arith
orphan_below net records x own live part ok initiator sound (suc bound) p below takes left =
    go (orphan_below net records x own live part ok initiator sound bound) need.earlier
  where
    need : NeedOf net records x live p
    need = ok.needed p takes

    orphan : part need.by ≡ true → ⊥
    orphan inside =
        let held = (ok.takers p takes).1 in
        let one = sound need.channel p need.by need.cross in
        let two =
        ap (λ (i : Image). i.received need.channel)
        (in_line records part need.by x live.number need.image inside need.held) in
        let three =
        ap (λ (i : Image). i.sent need.channel)
        (not_in_line records part p left ∙ effective_open records p x live.number held.0 held.1 ok.undecided) in
        let four = need.above in
        omega arith

    go : ((q : ℕ) → live.place q < bound → live.takes q ≡ true → part q ≡ false → ⊥)
        → (need.by ≡ x) ⊎ ((live.takes need.by ≡ true) × (live.place need.by < live.place p)) → ⊥
    go again (inl this) = orphan (rw this initiator)
    go again (inr taker) = elim (either (part need.by)) [
      | inl inside ↦ orphan inside
      | inr outside ↦ let earlier = taker.1 in again need.by (omega arith) taker.0 outside
    ]

pub takers_are_needed : (net : Net) (w : World) (x p : ℕ) (live : Live) → Reachable net w → IsLive w x live
    → live.takes p ≡ true → NeedOf net w.records x live p
takers_are_needed net w x p live reachable is takes =
    ((is_consistent net w reachable).agreed.live x live is).1.needed p takes

pub no_smaller_set : (net : Net) (w : World) (x p : ℕ) (live : Live) (part : ℕ → Bool) → Reachable net w
    → IsLive w x live → part x ≡ true → live.takes p ≡ true → part p ≡ false → NoOrphan net (line_with w.records part)
    → ⊥
no_smaller_set net w x p live part reachable is initiator takes left sound =
    let one = (is_consistent net w reachable).agreed.live x live is in
    orphan_below net w.records x one.0 live part one.1 initiator sound (suc (live.place p)) p (omega arith) takes left

pub no_smaller_decision : (net : Net) (w v : World) (x n p : ℕ) (part : ℕ → Bool) → Reachable net w → Step net w v
    → (w.records x).decided n ≡ false → (v.records x).decided n ≡ true → (v.records x).named n p ≡ true
    → part x ≡ true → part p ≡ false → NoOrphan net (line_with w.records part) → ⊥
no_smaller_decision net w v x n p part reachable step never now named initiator left sound =
    elim ((advances net w v (is_consistent net w reachable) step).grows.committed x n now) [
      | inl before ↦ absurd (false_true (sym never ∙ before))
      | inr was ↦ no_smaller_set net w x p was.live part reachable was.is initiator (was.takers p named) left sound
    ]

pub decides_for_the_needed : (net : Net) (w v : World) (x n : ℕ) → Reachable net w → Step net w v
    → (w.records x).decided n ≡ false → (v.records x).decided n ≡ true → NamesTheNeeded net w v.records x n
decides_for_the_needed net w v x n reachable step never now =
    elim ((advances net w v (is_consistent net w reachable) step).grows.committed x n now) [
      | inl before ↦ absurd (false_true (sym never ∙ before))
      | inr was ↦ record {
        live = was.live;
        is = was.is;
        number = was.number;
        takers = was.takers;
        needed =
            λ p named. takers_are_needed net w x p was.live reachable was.is (was.takers p named);
      }
    ]

-- an Ask that may be sent is for a need
asks_for_need : (net : Net) (w : World) (x n c m : ℕ) → Consistent net w → MaySend net w (Ask x n c m)
    → Wanted net w x n c m
asks_for_need net w x n c m ok s =
    let one = ok.agreed.live x s.live s.is in
    let was = one.1.witnessed c m Awaited s.asked in
    record {
      live = s.live;
      is = s.is;
      number = s.number;
      by = was.1;
      to = was.3.to;
      image = was.2;
      held = subst (λ (j : ℕ). Holds (w.records was.1) x j was.2) s.number was.5;
      one_of = was.4;
      received = was.6;
    }

in_flight_before : (net : Net) (w v : World) (packet : Packet) → Step net w v → InFlight v packet
    → InFlight w packet ⊎ MaySend net w packet
in_flight_before net w v packet (Acts k at s) flight = inl (at.flight packet flight)
in_flight_before net w v packet (Comes k other here at s) flight = inl (at.flight packet flight)
in_flight_before net w v packet (Send s) flight = s.flight packet flight

-- what is wanted was received
received_where_wanted : (net : Net) (w : World) (x n c m : ℕ) → Wanted net w x n c m → IsReceived net w.records x n c m
received_where_wanted net w x n c m wanted = record {
  by = wanted.by;
  to = wanted.to;
  image = wanted.image;
  held = wanted.held;
  received = wanted.received;
}

pub asks_as_received : (net : Net) (w v : World) (x n c m : ℕ) → Reachable net w → Step net w v
    → InFlight v (Ask x n c m) → InFlight w (Ask x n c m) ⊎ IsReceived net v.records x n c m
asks_as_received net w v x n c m reachable (Acts k at s) flight = inl (at.flight (Ask x n c m) flight)
asks_as_received net w v x n c m reachable (Comes k other here at s) flight = inl (at.flight (Ask x n c m) flight)
asks_as_received net w v x n c m reachable (Send s) flight = elim (s.flight (Ask x n c m) flight) [
  | inl was ↦ inl was
  | inr sends ↦ inr
      (subst (λ (r : ℕ → Record). IsReceived net r x n c m) (sym s.records)
      (received_where_wanted net w x n c m (asks_for_need net w x n c m (is_consistent net w reachable) sends)))
]

-- one step more

one_more : List World → World → List World
one_more [] u = u ∷ []
one_more (first ∷ worlds) u = first ∷ one_more worlds u

run_one_more : (net : Net) (start w u : World) (worlds : List World) → Run net start worlds w → Step net w u
    → Run net start (one_more worlds u) u
unfolding one_more
run_one_more net start w u [] run step = (rw run step, refl)
run_one_more net start w u (first ∷ worlds) run step = (run.0, run_one_more net first w u worlds run.1 step)

reachable_next : (net : Net) (w u : World) → Reachable net w → Step net w u → Reachable net u
reachable_next net w u reachable step = record {
  start = reachable.start;
  may = reachable.may;
  worlds = one_more reachable.worlds u;
  run = run_one_more net reachable.start w u reachable.worlds reachable.run step;
}

pub runs_on : (net : Net) (w v : World) (worlds : List World) → Reachable net w → Run net w worlds v → Reachable net v
runs_on net w v [] reachable run = rw (← run) reachable
runs_on net w v (u ∷ worlds) reachable run = runs_on net u v worlds (reachable_next net w u reachable run.0) run.1

-- an Ask in flight was so before the run, or was sent on the way
asked_on_the_way : (net : Net) (w v : World) (worlds : List World) (x n c m : ℕ) → Reachable net w → Run net w worlds v
    → InFlight v (Ask x n c m) → InFlight w (Ask x n c m) ⊎ WantedBefore net v x n c m
asked_on_the_way net w v [] x n c m reachable run flight = inl (rw run flight)
asked_on_the_way net w v (u ∷ worlds) x n c m reachable run flight =
    elim (asked_on_the_way net u v worlds x n c m (reachable_next net w u reachable run.0) run.1 flight) [
      | inr before ↦ inr before
      | inl at_u ↦ elim (in_flight_before net w u (Ask x n c m) run.0 at_u) [
        | inl at_w ↦ inl at_w
        | inr sends ↦ inr
            (record {
              world = w;
              reached = reachable;
              worlds = u ∷ worlds;
              since = run;
              wanted =
                  asks_for_need net w x n c m (is_consistent net w reachable) sends;
            })
      ]
    ]

pub asks_for_needs : (net : Net) (w : World) (x n c m : ℕ) → Reachable net w → InFlight w (Ask x n c m)
    → WantedBefore net w x n c m
asks_for_needs net w x n c m reachable flight =
    elim (asked_on_the_way net reachable.start w reachable.worlds x n c m at_first reachable.run flight) [
      | inl never ↦ absurd (some_not_none (ap (λ (v : World). v.flight never.0) reachable.may.is) never.1)
      | inr before ↦ before
    ]
  where
    at_first : Reachable net reachable.start
    at_first = record { start = reachable.start; may = reachable.may; worlds = []; run = refl }

pub takes_where_needed : (net : Net) (w v : World) (p x n : ℕ) (i : Image) → Reachable net w → Step net w v → p ≢ x
    → Holds (v.records p) x n i → Holds (w.records p) x n i ⊎ Needed net w v p x n i
takes_where_needed net w v p x n i reachable step other held =
    elim ((advances net w v (is_consistent net w reachable) step).grows.begins p x n i held) [
      | inl before ↦ inl before
      | inr begins ↦ elim begins.why [ inl own ↦ absurd (other own) | inr needed ↦ inr needed ]
    ]
