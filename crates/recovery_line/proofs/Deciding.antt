-- An initiator decides, once each question is answered: the one step in which the line moves.
use Rattle.std.proofs.Common.{◌≡◌, ◌⊎◌, inl, inr, ℕ, ◌≤◌, Bool, true, Option, Some, None, refl, sym, ap, ◌∙◌, subst}
use Rattle.std.proofs.Common.{arith}
use Rattle.std.specs.Prelude.{◌≢◌}
use Rattle.recovery_line.specs.Images.{Image, AtMost, Net, IsCross}
use Rattle.recovery_line.specs.Records.{Tentative, Record, Holds, effective}
use Rattle.recovery_line.specs.Moves.{Decides}
use Rattle.recovery_line.specs.Nodes.{Answer, Awaited, By_took, By_covered, Live, AllAnswered}
use Rattle.recovery_line.specs.Worlds.{World, node_of, IsLive}
use Rattle.recovery_line.specs.Line.{NotBehind, NoOrphan}
use Rattle.recovery_line.specs.Invariant.{NodeOk, Unmet, LiveOk, Agreed}
use Rattle.recovery_line.proofs.Basics.{false_true, either, same_or_other, above_or, at_most_itself, some_not_none}
use Rattle.recovery_line.proofs.Basics.{same_initiator, same_number, same_image, effective_free, effective_committed}
use Rattle.recovery_line.proofs.Basics.{effective_open, effective_stays}
use Rattle.recovery_line.proofs.Grows as grows
use Rattle.recovery_line.proofs.Grows.{Fate, Replaced, Grows, WasLive}
use Rattle.recovery_line.proofs.Frames.{OnlyRecord, everywhere, HoldOn, live_stays, still_live}

-- an effective image isn't behind the permanent one
pub after_permanent : (net : Net) (w : World) → ((k : ℕ) → NodeOk net k (node_of w k)) → (k : ℕ)
    → AtMost (w.records k).permanent (effective w.records k)
after_permanent net w nodes k = go (w.records k).tentative refl
  where
    go : (o : Option Tentative) → (w.records k).tentative ≡ o → AtMost (w.records k).permanent (effective w.records k)
    go None free = rw (effective_free w.records k free) (at_most_itself (w.records k).permanent)
    go (Some t) held = elim (either ((w.records t.initiator).decided t.number)) [
      | inl now ↦ rw (effective_committed w.records k t.initiator t.number t.image held now)
          ((nodes k).tentative t.initiator t.number t.image held).1
      | inr never ↦ rw (effective_open w.records k t.initiator t.number t.image held never)
          (at_most_itself (w.records k).permanent)
    ]

-- an own image isn't effective, since what its node decided is older
pub own_is_not_effective : (net : Net) (w : World) (k : ℕ) → NodeOk net k (node_of w k)
    → ((x n : ℕ) (i : Image) → Holds (w.records k) x n i → x ≡ k) → effective w.records k ≡ (w.records k).permanent
own_is_not_effective net w k ok own = go (w.records k).tentative refl
  where
    go : (o : Option Tentative) → (w.records k).tentative ≡ o → effective w.records k ≡ (w.records k).permanent
    go None free = effective_free w.records k free
    go (Some t) held = elim (either ((w.records t.initiator).decided t.number)) [
      | inr never ↦ effective_open w.records k t.initiator t.number t.image held never
      | inl now ↦
          let this = own t.initiator t.number t.image held in
          let one =
          ok.older t.number t.number t.image (subst (λ (x : ℕ). Holds (w.records k) x t.number t.image) this held)
          (subst (λ (x : ℕ). (w.records x).decided t.number ≡ true) this now) in
          absurd (omega arith)
    ]

-- what the decision means to a node
data Part (w v : World) (x : ℕ) (own : Image) (live : Live) (k : ℕ) : Type 0 where
  Initiator : k ≡ x → effective v.records k ≡ own → effective w.records k ≡ (w.records k).permanent
      → Part w v x own live k
  Taker : (i : Image) → k ≢ x → Holds (w.records k) x live.number i → live.takes k ≡ true → effective v.records k ≡ i
      → effective w.records k ≡ (w.records k).permanent → Part w v x own live k
  Other : k ≢ x → ((i : Image) → Holds (w.records k) x live.number i → ⊥)
      → effective v.records k ≡ effective w.records k → Part w v x own live k

module _ (net : Net) (w v : World) (x : ℕ) (own : Image) (live : Live) (ok : Agreed net w)
    (nodes : (k : ℕ) → NodeOk net k (node_of w k))
    (only : OnlyRecord w v x) (is : IsLive w x live) (answered : AllAnswered live)
    (decides : Decides (w.records x) (v.records x) x live.number own live.takes)
    (others : (y : ℕ) (l : Live) → IsLive v y l → (y ≢ x) × IsLive w y l) where
  fine : LiveOk net w.records x own live
  fine = let one = ok.live x live is in let same : one.0 ≡ own =
      same_image (w.records x) x live.number x live.number one.0 own one.1.held decides.held in rw same at one.1

  -- whoever holds the instance is a taker: it was asked, and the answer can only be its own
  holders_take : (p : ℕ) (i : Image) → p ≢ x → Holds (w.records p) x live.number i → live.takes p ≡ true
  holders_take p i other held = go ask.answer ask.asked
    where
      ask : Unmet net w.records live p
      ask = fine.holders p i other held

      go : (answer : Answer) → live.asks ask.channel ≡ Some (ask.count, answer) → live.takes p ≡ true
      go Awaited asked = absurd (answered ask.channel ask.count asked)
      go By_took asked = (fine.took ask.channel p ask.to ask.count ask.cross asked).0
      go By_covered asked = let one = fine.covered ask.channel p ask.to ask.count ask.cross asked in let two =
          ask.above in absurd (omega arith)

  -- an instance that isn't this one is as decided as before
  as_decided : (y m : ℕ) → ((y ≡ x) → (m ≡ live.number) → ⊥) → (v.records y).decided m ≡ (w.records y).decided m
  as_decided y m apart = elim (same_or_other y x) [
    | inr other ↦ ap (λ (r : Record). r.decided m) (only y other)
    | inl this ↦ rw this (decides.others m (λ number. apart this number)).0
  ]

  part_of_other : (k : ℕ) → k ≢ x → (o : Option Tentative) → (w.records k).tentative ≡ o → Part w v x own live k
  part_of_other k other None free = Other other (λ i held. some_not_none free held)
      (effective_free v.records k (ap (λ (r : Record). r.tentative) (only k other) ∙ free)
      ∙ ap (λ (r : Record). r.permanent) (only k other) ∙ sym (effective_free w.records k free))
  part_of_other k other (Some t) held = go (same_or_other t.initiator x) (same_or_other t.number live.number)
    where
      not_this : ((i : Image) → Holds (w.records k) x live.number i → ⊥)
          → ((t.initiator ≡ x) → (t.number ≡ live.number) → ⊥) → Part w v x own live k
      not_this free apart =
          Other other free
          (effective_stays w.records v.records k (ap (λ (r : Record). r.tentative) (only k other))
          (ap (λ (r : Record). r.permanent) (only k other))
          (λ y m i has. as_decided y m
          (λ this number. free i
          (subst (λ (e : ℕ). Holds (w.records k) x e i) number
          (subst (λ (e : ℕ). Holds (w.records k) e m i) this has)))))

      this_one : t.initiator ≡ x → t.number ≡ live.number → Holds (w.records k) x live.number t.image
      this_one this number =
          subst (λ (e : ℕ). Holds (w.records k) x e t.image) number
          (subst (λ (e : ℕ). Holds (w.records k) e t.number t.image) this held)

      go : (t.initiator ≡ x) ⊎ (t.initiator ≢ x) → (t.number ≡ live.number) ⊎ (t.number ≢ live.number)
          → Part w v x own live k
      go (inr differs) number =
          not_this
          (λ i has. differs (same_initiator (w.records k) t.initiator t.number x live.number t.image i held has))
          (λ this same. differs this)
      go (inl this) (inr differs) =
          not_this (λ i has. differs (same_number (w.records k) t.initiator t.number x live.number t.image i held has))
          (λ same number. differs number)
      go (inl this) (inl number) =
          let has = this_one this number in
          let takes = holders_take k t.image other has in
          Taker t.image other has takes
          (effective_committed v.records k x live.number t.image
          (ap (λ (r : Record). r.tentative) (only k other) ∙ has) (decides.decided k takes))
          (effective_open w.records k x live.number t.image has fine.undecided)

  part : (k : ℕ) → Part w v x own live k
  part k = elim (same_or_other k x) [
    | inr other ↦ part_of_other k other (w.records k).tentative refl
    | inl this ↦ Initiator this (rw this (effective_free v.records x decides.free ∙ decides.permanent))
        (rw this (effective_open w.records x x live.number own fine.held fine.undecided))
  ]

  forward_at : (k : ℕ) → Part w v x own live k → AtMost (effective w.records k) (effective v.records k)
  forward_at k (Initiator this now was) = rw (now, was, this) ((nodes x).tentative x live.number own fine.held).1
  forward_at k (Taker i other held takes now was) = rw (now, was) ((nodes k).tentative x live.number i held).1
  forward_at k (Other other free same) = rw same (at_most_itself (effective w.records k))

  forward : NotBehind w.records v.records
  forward k = forward_at k (part k)

  -- the line after the decision meets each question
  met : (c p q m : ℕ) (answer : Answer) → IsCross net c p q → live.asks c ≡ Some (m, answer)
      → m ≤ (effective v.records p).sent c
  met c p q m Awaited cross asked = absurd (answered c m asked)
  met c p q m By_covered cross asked =
      let one = fine.covered c p q m cross asked in
      let two = (after_permanent net w nodes p c).2 in
      let three = (forward p c).2 in
      omega arith
  met c p q m By_took cross asked = go (part p)
    where
      took : (live.takes p ≡ true) × ((i : Image) → Holds (w.records p) x live.number i → m ≤ i.sent c)
      took = fine.took c p q m cross asked

      go : Part w v x own live p → m ≤ (effective v.records p).sent c
      go (Initiator this now was) = absurd ((fine.takers p took.0).0 this)
      go (Taker i other held takes now was) = rw now (took.1 i held)
      go (Other other free same) = let held = (fine.takers p took.0).1 in absurd (free held.0 held.1)

  -- and what the line before it met
  met_before : (c p q m : ℕ) → IsCross net c p q → m ≤ (effective w.records q).received c
      → m ≤ (effective v.records p).sent c
  met_before c p q m cross le = let one = ok.no_orphan c p q cross in let two = (forward p c).2 in omega arith

  no_orphan : NoOrphan net (effective v.records)
  no_orphan c p q cross = go (part q)
    where
      go : Part w v x own live q → (effective v.records q).received c ≤ (effective v.records p).sent c
      go (Other other free same) = rw same (met_before c p q ((effective w.records q).received c) cross (omega arith))
      go (Initiator this now was) = rw now (elim (above_or ((w.records x).permanent.received c) (own.received c)) [
        | inl above ↦ let need = fine.needs c p (subst (λ (j : ℕ). IsCross net c p j) this cross) above in
            met c p q (own.received c) need.0 cross need.1
        | inr le ↦ met_before c p q (own.received c) cross (rw (was, this) le)
      ])
      go (Taker i other held takes now was) =
          rw now (elim (above_or ((w.records q).permanent.received c) (i.received c)) [
            | inl above ↦ elim (fine.takers_needs c p q i cross takes held above) [
              | inl mine ↦ rw (mine.0, effective_free v.records x decides.free ∙ decides.permanent) mine.1
              | inr asked ↦ met c p q (i.received c) asked.1.0 cross asked.1.1
            ]
            | inr le ↦ met_before c p q (i.received c) cross (rw was le)
          ])

  highest : (j : ℕ) → (v.records j).highest ≡ (w.records j).highest
  highest = everywhere (λ r. r.highest) w v x only decides.highest

  rises : (j : ℕ) → AtMost (w.records j).permanent (v.records j).permanent
  rises j = elim (same_or_other j x) [
    | inl this ↦ rw (this, decides.permanent) ((nodes x).tentative x live.number own fine.held).1
    | inr other ↦ rw (only j other) (at_most_itself (w.records j).permanent)
  ]

  was_held : (j y m : ℕ) (i : Image) → Holds (v.records j) y m i → (j ≢ x) × Holds (w.records j) y m i
  was_held j y m i held = elim (same_or_other j x) [
    | inl this ↦ absurd (some_not_none decides.free (rw this at held))
    | inr other ↦ (other, rw (only j other) at held)
  ]

  fate : (j y m : ℕ) (i : Image) → Holds (w.records j) y m i → Fate w v j y m i
  fate j y m i held = elim (same_or_other j x) [
    | inr other ↦ grows.Stays (rw (only j other) held)
    | inl this ↦ grows.Settles (rw this decides.free)
        (rw this (decides.permanent ∙ same_image (w.records x) x live.number y m own i decides.held (rw this at held)))
  ]

  replaced : (j : ℕ) → Replaced w v j
  replaced j = elim (same_or_other j x) [
    | inr other ↦ inl (ap (λ (r : Record). r.permanent) (only j other))
    | inl this ↦ inr (x, live.number, rw (this, decides.permanent) decides.held, λ over. over.closed live is refl)
  ]

  decided_now : (y m : ℕ) → (v.records y).decided m ≡ true
      → ((w.records y).decided m ≡ true) ⊎ ((y ≡ x) × (m ≡ live.number))
  decided_now y m now = elim (same_or_other y x) [
    | inr other ↦ inl (rw (only y other) at now)
    | inl this ↦ elim (same_or_other m live.number) [
      | inl number ↦ inr (this, number)
      | inr differs ↦ inl (rw this (sym (decides.others m differs).0 ∙ (rw this at now)))
    ]
  ]

  older : (m : ℕ) → (w.records x).decided m ≡ true → m ≢ live.number
  older m now number = false_true (sym fine.undecided ∙ (rw number at now))

  names_stay : (y m p : ℕ) → (w.records y).decided m ≡ true
      → ((v.records y).decided m ≡ (w.records y).decided m) × ((v.records y).named m p ≡ (w.records y).named m p)
  names_stay y m p decided = elim (same_or_other y x) [
    | inr other ↦ (ap (λ (r : Record). r.decided m) (only y other), ap (λ (r : Record). r.named m p) (only y other))
    | inl this ↦ let same = decides.others m (older m (rw this at decided)) in
        rw this (same.0, ap (λ (f : ℕ → Bool). f p) same.1)
  ]

  taker_seen : (p : ℕ) → live.takes p ≡ true → (w.records p).highest x ≡ live.number
  taker_seen p takes = let held = (fine.takers p takes).1 in ((nodes p).tentative x live.number held.0 held.1).0

  question_met : (c p q m : ℕ) (answer : Answer) → IsCross net c p q → live.asks c ≡ Some (m, answer)
      → (live.number ≤ (w.records p).highest x) ⊎ (m ≤ (w.records p).permanent.sent c)
  question_met c p q m Awaited cross asked = absurd (answered c m asked)
  question_met c p q m By_took cross asked = let seen = taker_seen p (fine.took c p q m cross asked).0 in
      inl (omega arith)
  question_met c p q m By_covered cross asked = inr (fine.covered c p q m cross asked)

  was_live : WasLive net w v x live.number
  was_live = record {
    live = live;
    is = is;
    number = refl;
    met = question_met;
    held = λ p named.
        let taker = fine.takers p (sym (decides.named p) ∙ named) in
        (taker.1.0, taker.1.1, rw (only p taker.0) taker.1.1);
    takers = λ p named. sym (decides.named p) ∙ named;
  }

  on : (y : ℕ) (l : Live) → y ≢ x → IsLive w y l → HoldOn w v y l
  on y l apart was = record {
    undecided = let one = ok.live y l was in rw (only y apart) one.1.undecided;
    holders = λ p i held. let other = not_x p i held in
        (rw (only p other) held, ap (λ (r : Record). r.permanent) (only p other));
    none_new = λ p i other held. (was_held p y l.number i held).1;
    permanent = rises;
  }
    where
      not_x : (p : ℕ) (i : Image) → Holds (w.records p) y l.number i → p ≢ x
      not_x p i held this =
          apart (same_initiator (w.records x) y l.number x live.number i own (rw this at held) fine.held)

  pub decides_grows : Grows net w v
  decides_grows = record {
    permanent = rises;
    highest = λ j y. let same = ap (λ (f : ℕ → ℕ). f y) (highest j) in omega arith;
    begins = λ j y m i held. inl (was_held j y m i held).1;
    fate = fate;
    replaced = replaced;
    committed =
        λ y m now. elim (decided_now y m now) [ inl was ↦ inl was | inr new ↦ inr (rw (new.0, new.1) was_live) ];
    names = λ y m p i decided named held. let same = names_stay y m p decided in (same.0 ∙ decided, same.1 ∙ named);
    live = λ y l now. let was = others y l now in inl (still_live w v y l was.1 (on y l was.0 was.1));
    line = forward;
  }

  pub decides_agrees : Agreed net v
  decides_agrees = record {
    highest = λ p y. rw (highest p, highest y) (ok.highest p y);
    named = λ y m p now named. rw (highest p) (elim (decided_now y m now) [
      | inl was ↦ ok.named y m p was (sym (names_stay y m p was).1 ∙ named)
      | inr new ↦ seen p y m new.0 new.1 named
    ]);
    holders = λ y m p i other held now.
        let was = (was_held p y m i held).1 in
        elim (decided_now y m now) [
          | inl before ↦ (names_stay y m p before).1 ∙ ok.holders y m p i other was before
          | inr new ↦ named_now p y m i new.0 new.1 other was
        ];
    no_orphan = no_orphan;
    live = λ y l now. let was = others y l now in let one = ok.live y l was.1 in
        (one.0, live_stays net w v y one.0 l (on y l was.0 was.1) one.1);
  }
    where
      seen : (p y m : ℕ) → y ≡ x → m ≡ live.number → (v.records y).named m p ≡ true → m ≤ (w.records p).highest y
      seen p y m this number named =
          let takes : live.takes p ≡ true = sym (decides.named p) ∙ (rw (this, number) at named) in
          let one = taker_seen p takes in
          rw (this, number) (omega arith)

      named_now : (p y m : ℕ) (i : Image) → y ≡ x → m ≡ live.number → p ≢ y → Holds (w.records p) y m i
          → (v.records y).named m p ≡ true
      named_now p y m i this number other held =
          rw (this, number)
          (decides.named p ∙ holders_take p i (λ same. other (same ∙ sym this)) (rw (this, number) at held))
