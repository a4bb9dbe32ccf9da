-- A node takes a tentative image of an instance that isn't decided: the line stays.
use Rattle.std.proofs.Common.{◌≡◌, ◌⊎◌, inl, inr, ℕ, ◌<◌, ◌≤◌, true, false, refl, sym, ap, ◌∙◌, arith}
use Rattle.std.specs.Prelude.{◌≢◌}
use Rattle.recovery_line.specs.Images.{Image, Net, IsCross}
use Rattle.recovery_line.specs.Records.{Record, Holds, effective}
use Rattle.recovery_line.specs.Moves.{Takes}
use Rattle.recovery_line.specs.Nodes.{Awaited, By_took, By_covered, Live, AsksNeeds}
use Rattle.recovery_line.specs.Worlds.{World, node_of, IsLive}
use Rattle.recovery_line.specs.Invariant.{NodeOk, Unmet, LiveOk, Agreed, AskSays}
use Rattle.recovery_line.specs.Laws.{Needed}
use Rattle.recovery_line.proofs.Basics.{false_true, either, same_or_other, at_most_itself, some_not_none, one_inside}
use Rattle.recovery_line.proofs.Basics.{same_initiator, same_number, same_image, effective_free, effective_open}
use Rattle.recovery_line.proofs.Grows.{Stays, Grows, StillLive}
use Rattle.recovery_line.proofs.Frames.{OnlyRecord, everywhere, effective_at_others, HoldOn, live_stays}

pub record Joins (net : Net) (w v : World) (k x n : ℕ) (image : Image) : Type 0 where
  pub only : OnlyRecord w v k
  pub takes : Takes (w.records k) (v.records k) x n image
  pub undecided : (w.records x).decided n ≡ false
  pub used : (k ≡ x) ⊎ (n ≤ (w.records x).highest x)
  pub why : (k ≡ x) ⊎ Needed net w v k x n image

module _ (net : Net) (w v : World) (k x n : ℕ) (image : Image) (ok : Agreed net w) (s : Joins net w v k x n image) where
  decided : (j : ℕ) → (v.records j).decided ≡ (w.records j).decided
  decided = everywhere (λ r. r.decided) w v k s.only s.takes.decided

  named : (j : ℕ) → (v.records j).named ≡ (w.records j).named
  named = everywhere (λ r. r.named) w v k s.only s.takes.named

  permanent : (j : ℕ) → (v.records j).permanent ≡ (w.records j).permanent
  permanent = everywhere (λ r. r.permanent) w v k s.only s.takes.permanent

  -- one entry alone rises, to the number
  highest : (j y : ℕ)
      → ((v.records j).highest y ≡ (w.records j).highest y) ⊎ ((j ≡ k) × (y ≡ x) × ((v.records j).highest y ≡ n))
  highest j y = elim (same_or_other j k) [
    | inr other ↦ inl (ap (λ (r : Record). r.highest y) (s.only j other))
    | inl is ↦ elim (same_or_other y x)
        [ inl to ↦ inr (is, to, rw (is, to) s.takes.highest) | inr other ↦ inl (rw is (s.takes.others y other)) ]
  ]

  rises : (j y : ℕ) → (w.records j).highest y ≤ (v.records j).highest y
  rises j y = elim (highest j y) [
    | inl same ↦ omega arith
    | inr new ↦ let one = s.takes.new in rw (new.0, new.1) (let two = s.takes.highest in omega arith)
  ]

  held_now : (j y m : ℕ) (i : Image) → Holds (v.records j) y m i
      → ((j ≢ k) × Holds (w.records j) y m i) ⊎ ((j ≡ k) × (y ≡ x) × (m ≡ n) × (i ≡ image))
  held_now j y m i held = elim (same_or_other j k) [
    | inr other ↦ inl (other, rw (s.only j other) at held)
    | inl is ↦
        let here : Holds (v.records k) y m i = rw is at held in
        inr (
          is,
          same_initiator (v.records k) y m x n i image here s.takes.holds,
          same_number (v.records k) y m x n i
              image here s.takes.holds,
          same_image (v.records k) y m x n i image here s.takes.holds,
        )
  ]

  was_other : (j y m : ℕ) (i : Image) → Holds (w.records j) y m i → j ≢ k
  was_other j y m i held is = some_not_none s.takes.free (rw is at held)

  holds_on : (j y m : ℕ) (i : Image) → Holds (w.records j) y m i → Holds (v.records j) y m i
  holds_on j y m i held = rw (s.only j (was_other j y m i held)) held

  line : (j : ℕ) → effective v.records j ≡ effective w.records j
  line j = elim (same_or_other j k) [
    | inl is ↦ rw is
        (effective_open v.records k x n image s.takes.holds (rw (decided x) s.undecided) ∙ s.takes.permanent
        ∙ sym (effective_free w.records k s.takes.free))
    | inr other ↦ effective_at_others w.records v.records j (s.only j other) decided
  ]

  pub joins_grows : ((y : ℕ) (live : Live) → IsLive v y live
      → StillLive w v y live ⊎ ((w.records y).highest y < live.number)) → Grows net w v
  joins_grows live = record {
    permanent = λ j. rw (permanent j) (at_most_itself (w.records j).permanent);
    highest = rises;
    begins = λ j y m i held. elim (held_now j y m i held) [
      | inl was ↦ inl was.1
      | inr new ↦ inr
          (record { above = rw (new.0, new.1, new.2) s.takes.new; why = rw (new.0, new.1, new.2, new.3) s.why })
    ];
    fate = λ j y m i held. Stays (holds_on j y m i held);
    replaced = λ j. inl (permanent j);
    committed = λ y m now. inl (rw (decided y) at now);
    names = λ y m p i is_decided is_named held. (rw (decided y) is_decided, rw (named y) is_named);
    live = live;
    line = λ j. rw (line j) (at_most_itself (effective w.records j));
  }

  pub joins_agrees : ((y : ℕ) (live : Live) → IsLive v y live → (own : Image) × LiveOk net v.records y own live)
      → Agreed net v
  joins_agrees live = record {
    highest = λ p y. elim (highest p y) [
      | inl same ↦ let one = ok.highest p y in let two = rises y y in omega arith
      | inr new ↦ rw (new.0, new.1) (elim s.used [
        | inl own ↦ rw own (omega arith)
        | inr used ↦ let one = s.takes.highest in let two = rises x x in omega arith
      ])
    ];
    named = λ y m p now is_named. let one = ok.named y m p (rw (decided y) at now) (rw (named y) at is_named) in
        let two = rises p y in omega arith;
    holders = λ y m p i other held now. rw (named y) (elim (held_now p y m i held) [
      | inl was ↦ ok.holders y m p i other was.1 (rw (decided y) at now)
      | inr new ↦ let before : (w.records y).decided m ≡ true = rw (decided y) at now in
          absurd (false_true (sym s.undecided ∙ (rw (new.1, new.2) at before)))
    ]);
    no_orphan = λ c p q cross. rw (line q, line p) (ok.no_orphan c p q cross);
    live = live;
  }

  -- an instance other than the one that is joined
  pub others_hold_on : (y : ℕ) (own : Image) (live : Live) → LiveOk net w.records y own live
      → ((y ≡ x) → live.number ≡ n → ⊥) → HoldOn w v y live
  others_hold_on y own live o apart = record {
    undecided = rw (decided y) o.undecided;
    holders = λ p i held. (holds_on p y live.number i held, permanent p);
    none_new =
        λ p i other held. elim (held_now p y live.number i held)
        [ inl was ↦ was.1 | inr new ↦ absurd (apart new.1 new.2) ];
    permanent = λ j. rw (permanent j) (at_most_itself (w.records j).permanent);
  }

  -- any live instance, with the holders that it had
  pub joined_still_live : (y : ℕ) (live : Live) → IsLive w y live → StillLive w v y live
  joined_still_live y live is = record {
    live = live;
    is = is;
    number = refl;
    asks = λ c m answer asked. (answer, asked);
    holders = λ p i other held. (holds_on p y live.number i held, permanent p);
  }

  -- the one that is joined has a new holder, which isn't one of its takers yet
  pub joined_ok : (y : ℕ) (own : Image) (live : Live) → LiveOk net w.records y own live
      → ((y ≡ x) → live.number ≡ n → Unmet net w.records live k) → LiveOk net v.records y own live
  joined_ok y own live o unmet = record {
    held = holds_on y y live.number own o.held;
    undecided = rw (decided y) o.undecided;
    takers = λ p takes. let was = o.takers p takes in (was.0, (was.1.0, holds_on p y live.number was.1.0 was.1.1));
    needs = λ c p cross above. o.needs c p cross (rw (permanent y) at above);
    takers_needs =
        λ c p q i cross takes held above. o.takers_needs c p q i cross takes (taker_was q i takes held)
        (rw (permanent q) at above);
    took = λ c p q m cross asked. let was = o.took c p q m cross asked in
        (was.0, λ i held. was.1 i (taker_was p i was.0 held));
    covered = λ c p q m cross asked. rw (permanent p) (o.covered c p q m cross asked);
    holders = λ p i other held. asked_for p i other (held_now p y live.number i held);
    witnessed = λ c m answer asked. let was = o.witnessed c m answer asked in
        (was.0, was.1, was.2, was.3, was.4, holds_on was.1 y live.number was.2 was.5, was.6, was.7);
    needed = λ p takes. let need = o.needed p takes in record {
      channel = need.channel;
      by = need.by;
      image = need.image;
      cross = need.cross;
      held = holds_on need.by y live.number need.image need.held;
      earlier = need.earlier;
      above = rw (permanent p) need.above;
    };
  }
    where
      taker_was : (p : ℕ) (i : Image) → live.takes p ≡ true → Holds (v.records p) y live.number i
          → Holds (w.records p) y live.number i
      taker_was p i takes held = elim (held_now p y live.number i held) [
        | inl was ↦ was.1
        | inr new ↦ let was = o.takers p takes in absurd (was_other p y live.number was.1.0 was.1.1 new.0)
      ]

      asked_for : (p : ℕ) (i : Image) → p ≢ y
          → ((p ≢ k) × Holds (w.records p) y live.number i) ⊎ ((p ≡ k) × (y ≡ x) × (live.number ≡ n) × (i ≡ image))
          → Unmet net v.records live p
      asked_for p i other (inl was) = let ask = o.holders p i other was.1 in record {
        channel = ask.channel;
        to = ask.to;
        count = ask.count;
        answer = ask.answer;
        cross = ask.cross;
        asked = ask.asked;
        above = rw (permanent p) ask.above;
      }
      asked_for p i other (inr new) = let ask = unmet new.1 new.2 in record {
        channel = ask.channel;
        to = ask.to;
        count = ask.count;
        answer = ask.answer;
        cross = rw (new.0) ask.cross;
        asked = ask.asked;
        above = rw (permanent p, new.0) ask.above;
      }

-- An initiator starts an instance: its number is new, so that nobody else holds it.
module _ (net : Net) (w v : World) (x : ℕ) (image : Image) (start : Live) (ok : Agreed net w)
    (nodes : (k : ℕ) → NodeOk net k (node_of w k))
    (only : OnlyRecord w v x) (takes : Takes (w.records x) (v.records x) x start.number image)
    (asks : AsksNeeds net x (w.records x).permanent image start.asks)
    (nobody : (p : ℕ) → start.takes p ≢ true) (now : IsLive v x start)
    (others : (y : ℕ) (live : Live) → y ≢ x → IsLive v y live → IsLive w y live) where
  joins : Joins net w v x x start.number image
  joins = record {
    only = only;
    takes = takes;
    undecided = elim (either ((w.records x).decided start.number)) [
      | inr never ↦ never
      | inl decided_before ↦ let one = (nodes x).used start.number decided_before in let two = takes.new in
          absurd (omega arith)
    ];
    used = inl refl;
    why = inl refl;
  }

  nobody_holds : (p : ℕ) (i : Image) → p ≢ x → Holds (v.records p) x start.number i → ⊥
  nobody_holds p i other held =
      let one = ((nodes p).tentative x start.number i (rw (only p other) at held)).0 in
      let two = ok.highest p x in
      let three = takes.new in
      omega arith

  start_ok : LiveOk net v.records x image start
  start_ok = record {
    held = takes.holds;
    undecided = rw (takes.decided) joins.undecided;
    takers = λ p is. absurd (nobody p is);
    needs = λ c p cross above. (Awaited, asks.each c p cross (rw (takes.permanent) at above));
    takers_needs = λ c p q i cross is held above. absurd (nobody q is);
    took = λ c p q m cross asked. let one = (asks.only c m By_took asked).3 in absurd (cc one);
    covered = λ c p q m cross asked. let one = (asks.only c m By_covered asked).3 in absurd (cc one);
    holders = λ p i other held. absurd (nobody_holds p i other held);
    witnessed = λ c m answer asked. let one = asks.only c m answer asked in
        (one.0, x, image, one.1, inl refl, takes.holds, one.2, one.1.apart);
    needed = λ p is. absurd (nobody p is);
  }

  pub start_grows : Grows net w v
  start_grows = joins_grows net w v x x start.number image ok joins (λ y live is. elim (same_or_other y x) [
    | inl this ↦ let same : live ≡ start = one_inside (rw this at is) now in inr (rw (this, same) takes.new)
    | inr other ↦ inl (joined_still_live net w v x x start.number image ok joins y live (others y live other is))
  ])

  pub start_agrees : Agreed net v
  start_agrees = joins_agrees net w v x x start.number image ok joins (λ y live is. elim (same_or_other y x) [
    | inl this ↦ let same : live ≡ start = one_inside (rw this at is) now in (image, rw (this, same) start_ok)
    | inr other ↦
        let one = ok.live y live (others y live other is) in (
          one.0,
          live_stays net w v y one.0 live
              (others_hold_on net w v x x start.number image ok joins y one.0 live one.1 (λ this number. other this))
              one.1,
        )
  ])

-- A node takes an image for an Ask: the instance isn't decided, since then the node would have seen it or met the
-- count.
module _ (net : Net) (w v : World) (k x n c m to : ℕ) (image : Image) (ok : Agreed net w) (says : AskSays w x n c m k)
    (only : OnlyRecord w v k) (takes : Takes (w.records k) (v.records k) x n image) (cross : IsCross net c k to)
    (above : (w.records k).permanent.sent c < m) (why : Needed net w v k x n image)
    (live_same : (y : ℕ) (live : Live) → IsLive v y live → IsLive w y live) where
  ask_joins : Joins net w v k x n image
  ask_joins = record {
    only = only;
    takes = takes;
    undecided = elim (either ((w.records x).decided n)) [
      | inr never ↦ never
      | inl now ↦ elim (says.closed now)
          [ inl seen ↦ let one = takes.new in absurd (omega arith) | inr put ↦ absurd (omega arith) ]
    ];
    used = inr says.used;
    why = inr why;
  }

  pub ask_grows : Grows net w v
  ask_grows =
      joins_grows net w v k x n image ok ask_joins
      (λ y live is. inl (joined_still_live net w v k x n image ok ask_joins y live (live_same y live is)))

  pub ask_agrees : Agreed net v
  ask_agrees = joins_agrees net w v k x n image ok ask_joins (λ y live is.
      let was = live_same y live is in
      let one = ok.live y live was in (
        one.0,
        joined_ok net w v k x n image ok ask_joins y one.0 live one.1 (λ this number.
            let ask = says.asked live (rw this at was) number in
            record { channel = c; to = to; count = m; answer = ask.0; cross = cross; asked = ask.1; above = above }),
      ))
