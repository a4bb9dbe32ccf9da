-- An answer comes to the initiator of a live instance, which stays in order.
use Rattle.std.proofs.Common.{◌≡◌, ◌⊎◌, inl, inr, ℕ, ◌<◌, ◌≤◌, Bool, true, Option, Some, sym, ap, ◌∙◌, subst, arith}
use Rattle.std.specs.Prelude.{◌≢◌}
use Rattle.recovery_line.specs.Images.{Image, Net, IsCross}
use Rattle.recovery_line.specs.Records.{Holds}
use Rattle.recovery_line.specs.Nodes.{Answer, Awaited, By_took, By_covered}
use Rattle.recovery_line.specs.Packets.{HearsTook, HearsCovered}
use Rattle.recovery_line.specs.Worlds.{World, node_of}
use Rattle.recovery_line.specs.Invariant.{NeedOf, LiveOk, TookWhileLive}
use Rattle.recovery_line.proofs.Basics.{same_or_other, one_inside, same_image}

-- the question on this channel of which a count is known
pub same_count : {o : Option (ℕ × Answer)} → (m j : ℕ) (one two : Answer) → o ≡ Some (m, one) → o ≡ Some (j, two)
    → m ≡ j
same_count m j one two first second = ap (λ (pair : ℕ × Answer). pair.0) (one_inside first second)

same_answer : {o : Option (ℕ × Answer)} → (m j : ℕ) (one two : Answer) → o ≡ Some (m, one) → o ≡ Some (j, two)
    → one ≡ two
same_answer m j one two first second = ap (λ (pair : ℕ × Answer). pair.1) (one_inside first second)

module _ (net : Net) (w v : World) (k n c : ℕ) (own : Image) (s : HearsCovered (node_of w k) (node_of v k) n c)
    (put : (p q : ℕ) → IsCross net c p q → s.count ≤ (w.records p).permanent.sent c)
    (ok : LiveOk net w.records k own s.before) where
  pub covered_asks : (d j : ℕ) (answer : Answer) → s.before.asks d ≡ Some (j, answer)
      → (next : Answer) × (s.later.asks d ≡ Some (j, next))
  covered_asks d j answer asked = elim (same_or_other d c) [
    | inr other ↦ (answer, s.others d other ∙ asked)
    | inl this ↦ let count = same_count s.count j Awaited answer s.asked (rw this at asked) in
        (By_covered, rw (this, ← count) s.answered)
  ]

  asked_before : (d j : ℕ) (answer : Answer) → s.later.asks d ≡ Some (j, answer)
      → (first : Answer) × (s.before.asks d ≡ Some (j, first))
  asked_before d j answer asked = elim (same_or_other d c) [
    | inr other ↦ (answer, sym (s.others d other) ∙ asked)
    | inl this ↦ let count = same_count s.count j By_covered answer s.answered (rw this at asked) in
        (Awaited, rw (this, ← count) s.asked)
  ]

  covered_one_of : (q : ℕ) → (q ≡ k) ⊎ (s.before.takes q ≡ true) → (q ≡ k) ⊎ (s.later.takes q ≡ true)
  covered_one_of q (inl this) = inl this
  covered_one_of q (inr takes) = inr (ap (λ (f : ℕ → Bool). f q) s.takes ∙ takes)

  covered_held : (p : ℕ) (i : Image) → Holds (w.records p) k s.before.number i → Holds (w.records p) k s.later.number i
  covered_held p i held = rw (s.number_same) held

  pub covered_live_ok : LiveOk net w.records k own s.later
  covered_live_ok = record {
    held = rw (s.number_same) ok.held;
    undecided = rw (s.number_same) ok.undecided;
    takers = rw (s.takes, s.number_same) ok.takers;
    needs = λ d p cross above. let ask = ok.needs d p cross above in covered_asks d (own.received d) ask.0 ask.1;
    takers_needs =
        λ d p q i cross takes held
        above. elim (ok.takers_needs d p q i cross (rw (s.takes) at takes) (rw (s.number_same) at held) above) [
          | inl mine ↦ inl mine
          | inr ask ↦ inr (ask.0, covered_asks d (i.received d) ask.1.0 ask.1.1)
        ];
    took = λ d p q j cross asked. elim (same_or_other d c) [
      | inl this ↦ let wrong = same_answer s.count j By_covered By_took s.answered (rw this at asked) in
          absurd (cc wrong)
      | inr other ↦ let was = ok.took d p q j cross (sym (s.others d other) ∙ asked) in
          (rw (s.takes) was.0, rw (s.number_same) was.1)
    ];
    covered = λ d p q j cross asked. elim (same_or_other d c) [
      | inl this ↦ let count = same_count s.count j By_covered By_covered s.answered (rw this at asked) in let one =
          put p q (rw this at cross) in rw this (omega arith)
      | inr other ↦ ok.covered d p q j cross (sym (s.others d other) ∙ asked)
    ];
    holders = λ p i other held.
        let ask = ok.holders p i other (rw (s.number_same) at held) in
        let now = covered_asks ask.channel ask.count ask.answer ask.asked in
        record {
          channel = ask.channel;
          to = ask.to;
          count = ask.count;
          answer = now.0;
          cross = ask.cross;
          asked =
              now.1;
          above = ask.above;
        };
    witnessed = λ d j answer asked.
        let first = asked_before d j answer asked in
        let was = ok.witnessed d j first.0 first.1 in
        (was.0, was.1, was.2, was.3, covered_one_of was.1 was.4, covered_held was.1 was.2 was.5, was.6, was.7);
    needed = λ p takes. let need = ok.needed p (rw (s.takes) at takes) in record {
      channel = need.channel;
      by = need.by;
      image = need.image;
      cross = need.cross;
      held = rw (s.number_same) need.held;
      earlier = rw (s.takes, s.place) need.earlier;
      above = need.above;
    };
  }

module _ (net : Net) (w v : World) (k n c : ℕ) (needs : ℕ → Option ℕ) (own : Image)
    (s : HearsTook net k (node_of w k) (node_of v k) n c needs)
    (told : TookWhileLive net w k s.before.number c s.count s.from needs s.before)
    (ok : LiveOk net w.records k own s.before) where
  pub took_asks : (d j : ℕ) (answer : Answer) → s.before.asks d ≡ Some (j, answer)
      → (next : Answer) × (s.later.asks d ≡ Some (j, next))
  took_asks d j answer asked = elim (same_or_other d c) [
    | inr differs ↦ (answer, s.asks_kept d j answer differs asked)
    | inl this ↦ let count = same_count s.count j s.answer answer s.asked (rw this at asked) in
        (By_took, rw (this, ← count) s.answered)
  ]

  takes_still : (p : ℕ) → s.before.takes p ≡ true → s.later.takes p ≡ true
  takes_still p takes =
      elim (same_or_other p s.from) [ inl this ↦ rw this s.takes | inr differs ↦ s.takes_others p differs ∙ takes ]

  takes_before : (p : ℕ) → s.later.takes p ≡ true → (s.before.takes p ≡ true) ⊎ (p ≡ s.from)
  takes_before p takes =
      elim (same_or_other p s.from) [ inl this ↦ inr this | inr differs ↦ inl (sym (s.takes_others p differs) ∙ takes) ]

  held_before : (p : ℕ) (i : Image) → Holds (w.records p) k s.later.number i → Holds (w.records p) k s.before.number i
  held_before p i held = rw (s.number_same) at held

  held_still : (p : ℕ) (i : Image) → Holds (w.records p) k s.before.number i → Holds (w.records p) k s.later.number i
  held_still p i held = rw (s.number_same) held

  image_told : (i : Image) → Holds (w.records s.from) k s.before.number i → i ≡ told.image
  image_told i held = same_image (w.records s.from) k s.before.number k s.before.number i told.image held told.held

  one_of : (q : ℕ) → (q ≡ k) ⊎ (s.before.takes q ≡ true) → (q ≡ k) ⊎ (s.later.takes q ≡ true)
  one_of q (inl this) = inl this
  one_of q (inr takes) = inr (takes_still q takes)

  -- each question is one from before, or a need of the new taker
  witnessed : (d j : ℕ) (answer : Answer) → s.later.asks d ≡ Some (j, answer)
      → (p : ℕ) × (q : ℕ) × (i : Image) × IsCross net d p q × ((q ≡ k) ⊎ (s.later.takes q ≡ true))
      × Holds (w.records q) k s.later.number i × (j ≡ i.received d) × (p ≢ k)
  witnessed d j answer asked = go (same_or_other d c)
    where
      old : (e l : ℕ) (first : Answer) → s.before.asks e ≡ Some (l, first)
          → (p : ℕ) × (q : ℕ) × (i : Image) × IsCross net e p q × ((q ≡ k) ⊎ (s.later.takes q ≡ true))
          × Holds (w.records q) k s.later.number i × (l ≡ i.received e) × (p ≢ k)
      old e l first was_asked = let was = ok.witnessed e l first was_asked in
          (was.0, was.1, was.2, was.3, one_of was.1 was.4, held_still was.1 was.2 was.5, was.6, was.7)

      go : (d ≡ c) ⊎ (d ≢ c)
          → (p : ℕ) × (q : ℕ) × (i : Image) × IsCross net d p q × ((q ≡ k) ⊎ (s.later.takes q ≡ true))
          × Holds (w.records q) k s.later.number i × (j ≡ i.received d) × (p ≢ k)
      go (inl this) = let count = same_count s.count j By_took answer s.answered (rw this at asked) in
          old d j s.answer (rw (this, ← count) s.asked)
      go (inr differs) = elim (s.asks_new d j answer differs asked) [
        | inl before ↦ old d j answer before
        | inr new ↦ let need = told.needs_of.only d j new.0 in (
          need.0,
          s.from,
          told.image,
          need.1,
          inr s.takes,
          held_still s.from told.image told.held,
          need.2,
          λ is. new.2 (need.1.from ∙ ap Some is),
        )
      ]

  -- a need of the new taker is asked for with its own count
  need_asked : (d r j : ℕ) (answer : Answer) → IsCross net d r s.from → s.later.asks d ≡ Some (j, answer)
      → j ≡ told.image.received d
  need_asked d r j answer cross asked =
      let was = witnessed d j answer asked in
      let this : was.1 ≡ s.from = one_inside was.3.to cross.to in
      let held : Holds (w.records s.from) k s.later.number was.2 =
      subst (λ (q : ℕ). Holds (w.records q) k s.later.number was.2) this was.5 in
      was.6 ∙ ap (λ (i : Image). i.received d) (image_told was.2 (held_before s.from was.2 held))

  takers_needs : (d a b : ℕ) (i : Image) → IsCross net d a b → s.later.takes b ≡ true
      → Holds (w.records b) k s.later.number i → (w.records b).permanent.received d < i.received d
      → ((a ≡ k) × (i.received d ≤ own.sent d))
      ⊎ ((a ≢ k) × ((answer : Answer) × (s.later.asks d ≡ Some (i.received d, answer))))
  takers_needs d a b i cross takes held above = go (takes_before b takes)
    where
      go : (s.before.takes b ≡ true) ⊎ (b ≡ s.from)
          → ((a ≡ k) × (i.received d ≤ own.sent d))
          ⊎ ((a ≢ k) × ((answer : Answer) × (s.later.asks d ≡ Some (i.received d, answer))))
      go (inl old) = elim (ok.takers_needs d a b i cross old (held_before b i held) above) [
        | inl mine ↦ inl mine
        | inr ask ↦ inr (ask.0, took_asks d (i.received d) ask.1.0 ask.1.1)
      ]
      go (inr this) =
          let here : IsCross net d a s.from = rw this at cross in
          let same : i ≡ told.image = image_told i (held_before s.from i (rw this at held)) in
          elim (s.met d a (i.received d) here (rw same (told.needs_of.each d a here (rw (this, same) at above)))) [
            | inl mine ↦ inl (mine.0, rw (same_own) mine.1)
            | inr ask ↦ let count = need_asked d a ask.1 ask.2 here ask.3 in
                inr (ask.0, (ask.2, rw (same, ← count) ask.3))
          ]
        where
          same_own : own ≡ s.own
          same_own = same_image (w.records k) k s.before.number k n own s.own ok.held s.held

  took : (d a b j : ℕ) → IsCross net d a b → s.later.asks d ≡ Some (j, By_took)
      → (s.later.takes a ≡ true) × ((i : Image) → Holds (w.records a) k s.later.number i → j ≤ i.sent d)
  took d a b j cross asked = go (same_or_other d c)
    where
      go : (d ≡ c) ⊎ (d ≢ c)
          → (s.later.takes a ≡ true) × ((i : Image) → Holds (w.records a) k s.later.number i → j ≤ i.sent d)
      go (inr differs) = elim (s.asks_new d j By_took differs asked) [
        | inl before ↦ let was = ok.took d a b j cross before in
            (takes_still a was.0, λ i held. was.1 i (held_before a i held))
        | inr new ↦ let wrong = new.1 in absurd (cc wrong)
      ]
      go (inl this) =
          let count = same_count s.count j By_took By_took s.answered (rw this at asked) in
          let node : a ≡ s.from = one_inside (rw this at cross.from) s.cross.from in (
            rw node s.takes,
            λ i held.
                let same = image_told i (held_before s.from i (rw node at held)) in
                rw (this, same) (let le = told.within in omega arith),
          )

  covered : (d a b j : ℕ) → IsCross net d a b → s.later.asks d ≡ Some (j, By_covered)
      → j ≤ (w.records a).permanent.sent d
  covered d a b j cross asked = elim (same_or_other d c) [
    | inl this ↦ let wrong = same_answer s.count j By_took By_covered s.answered (rw this at asked) in absurd (cc wrong)
    | inr differs ↦ elim (s.asks_new d j By_covered differs asked)
        [ inl before ↦ ok.covered d a b j cross before | inr new ↦ let wrong = new.1 in absurd (cc wrong) ]
  ]

  -- an old taker's place stays, and the new taker's is the last
  needed : (p : ℕ) → s.later.takes p ≡ true → NeedOf net w.records k s.later p
  needed p takes = go (takes_before p takes)
    where
      old : (q : ℕ) → s.before.takes q ≡ true → NeedOf net w.records k s.later q
      old q took_before = let need = ok.needed q took_before in record {
        channel = need.channel;
        by = need.by;
        image = need.image;
        cross = need.cross;
        held = held_still need.by need.image need.held;
        earlier = elim need.earlier [
          | inl this ↦ inl this
          | inr before ↦ let one = s.places need.by before.0 in let two = s.places q took_before in let three =
              before.1 in inr (takes_still need.by before.0, omega arith)
        ];
        above = need.above;
      }

      new : ((q : ℕ) → s.before.takes q ≡ true → s.later.place q < s.later.place s.from)
          → NeedOf net w.records k s.later s.from
      new last = let was = ok.witnessed c s.count s.answer s.asked in record {
        channel = c;
        by = was.1;
        image = was.2;
        cross = subst (λ (e : ℕ). IsCross net c e was.1) (one_inside was.3.from s.cross.from) was.3;
        held = held_still was.1 was.2 was.5;
        earlier = elim was.4 [ inl this ↦ inl this | inr before ↦ inr (takes_still was.1 before, last was.1 before) ];
        above = let one = told.above in let two = was.6 in omega arith;
      }

      go : (s.before.takes p ≡ true) ⊎ (p ≡ s.from) → NeedOf net w.records k s.later p
      go (inl before) = old p before
      go (inr this) = elim s.last [ inl before ↦ rw this (old s.from before) | inr last ↦ rw this (new last) ]

  pub took_live_ok : LiveOk net w.records k own s.later
  took_live_ok = record {
    held = held_still k own ok.held;
    undecided = rw (s.number_same) ok.undecided;
    takers = λ p takes. elim (takes_before p takes) [
      | inl before ↦ let was = ok.takers p before in (was.0, (was.1.0, held_still p was.1.0 was.1.1))
      | inr this ↦ rw this (told.other, (told.image, held_still s.from told.image told.held))
    ];
    needs = λ d p cross above. let ask = ok.needs d p cross above in took_asks d (own.received d) ask.0 ask.1;
    takers_needs = takers_needs;
    took = took;
    covered = covered;
    holders = λ p i apart held.
        let ask = ok.holders p i apart (held_before p i held) in
        let now = took_asks ask.channel ask.count ask.answer ask.asked in
        record {
          channel = ask.channel;
          to = ask.to;
          count = ask.count;
          answer = now.0;
          cross = ask.cross;
          asked =
              now.1;
          above = ask.above;
        };
    witnessed = witnessed;
    needed = needed;
  }
