-- A decision no longer names a node that holds no image of it: the line stays.
use Rattle.std.proofs.Common.{◌≡◌, inl, inr, ℕ, Bool, true, sym, ap, ◌∙◌, arith}
use Rattle.std.specs.Prelude.{◌≢◌}
use Rattle.recovery_line.specs.Images.{Image, Net}
use Rattle.recovery_line.specs.Records.{Holds, effective}
use Rattle.recovery_line.specs.Moves.{Confirms}
use Rattle.recovery_line.specs.Nodes.{Live}
use Rattle.recovery_line.specs.Worlds.{World, node_of, IsLive}
use Rattle.recovery_line.specs.Invariant.{NodeOk, Agreed, SettledSays}
use Rattle.recovery_line.proofs.Basics.{false_true, either, same_or_other, at_most_itself, effective_stays}
use Rattle.recovery_line.proofs.Grows.{Stays, Grows}
use Rattle.recovery_line.proofs.Frames.{OnlyRecord, everywhere, HoldOn, live_stays, still_live}

module _ (net : Net) (w v : World) (x p n : ℕ) (ok : Agreed net w) (nodes : (k : ℕ) → NodeOk net k (node_of w k))
    (says : SettledSays w p x n)
    (only : OnlyRecord w v x) (confirms : Confirms (w.records x) (v.records x) n p)
    (live_same : (y : ℕ) (live : Live) → IsLive v y live → IsLive w y live) where
  tentative : (j : ℕ) → (v.records j).tentative ≡ (w.records j).tentative
  tentative = everywhere (λ r. r.tentative) w v x only confirms.tentative

  permanent : (j : ℕ) → (v.records j).permanent ≡ (w.records j).permanent
  permanent = everywhere (λ r. r.permanent) w v x only confirms.permanent

  highest : (j : ℕ) → (v.records j).highest ≡ (w.records j).highest
  highest = everywhere (λ r. r.highest) w v x only confirms.highest

  was_held : (j y m : ℕ) (i : Image) → Holds (v.records j) y m i → Holds (w.records j) y m i
  was_held j y m i held = sym (tentative j) ∙ held

  holds_on : (j y m : ℕ) (i : Image) → Holds (w.records j) y m i → Holds (v.records j) y m i
  holds_on j y m i held = tentative j ∙ held

  decided_before : (y m : ℕ) → (v.records y).decided m ≡ true → (w.records y).decided m ≡ true
  decided_before y m now = elim (same_or_other y x) [
    | inr other ↦ rw (only y other) at now
    | inl is ↦ elim (same_or_other m n) [
      | inl this ↦ rw (is, this) (confirms.less (rw (is, this) at now))
      | inr other ↦ rw is (sym (confirms.others m other).0 ∙ (rw is at now))
    ]
  ]

  named_before : (y m q : ℕ) → (v.records y).named m q ≡ true → (w.records y).named m q ≡ true
  named_before y m q now = elim (same_or_other y x) [
    | inr other ↦ rw (only y other) at now
    | inl is ↦ elim (same_or_other m n) [
      | inr other ↦ rw is (ap (λ (f : ℕ → Bool). f q) (sym (confirms.others m other).1) ∙ (rw is at now))
      | inl this ↦ elim (same_or_other q p) [
        | inl gone ↦ absurd (false_true (sym confirms.leaves ∙ (rw (is, this, gone) at now)))
        | inr stays ↦ rw (is, this) (sym (confirms.stays q stays) ∙ (rw (is, this) at now))
      ]
    ]
  ]

  -- a holder stays named, since it isn't the one that leaves
  named_still : (y m q : ℕ) (i : Image) → (w.records y).decided m ≡ true → (w.records y).named m q ≡ true
      → Holds (w.records q) y m i → ((v.records y).decided m ≡ true) × ((v.records y).named m q ≡ true)
  named_still y m q i decided named held = elim (same_or_other y x) [
    | inr other ↦ (rw (only y other) decided, rw (only y other) named)
    | inl is ↦ elim (same_or_other m n) [
      | inr other ↦ rw is (
        (confirms.others m other).0 ∙ (rw is at decided),
        ap (λ (f : ℕ → Bool). f q) (confirms.others m other).1
            ∙ (rw is at named),
      )
      | inl this ↦
          let stays : q ≢ p = λ same. says.free i (rw (← same, ← is, ← this) held) in
          let before : (w.records x).named n q ≡ true = rw (is, this) at named in
          rw (is, this) (confirms.kept q stays before ∙ (rw (is, this) at decided), confirms.stays q stays ∙ before)
    ]
  ]

  decided_still : (y m q : ℕ) (i : Image) → (w.records y).decided m ≡ true → Holds (w.records q) y m i
      → (v.records y).decided m ≡ true
  decided_still y m q i decided held = elim (same_or_other q y) [
    | inl own ↦ let one = (nodes y).older m m i (rw own at held) decided in absurd (omega arith)
    | inr other ↦ (named_still y m q i decided (ok.holders y m q i other held decided) held).0
  ]

  line : (j : ℕ) → effective v.records j ≡ effective w.records j
  line j = effective_stays w.records v.records j (tentative j) (permanent j) as_decided
    where
      as_decided : (y m : ℕ) (i : Image) → Holds (w.records j) y m i → (v.records y).decided m ≡ (w.records y).decided m
      as_decided y m i held = elim (either ((w.records y).decided m)) [
        | inl now ↦ decided_still y m j i now held ∙ sym now
        | inr never ↦ elim (either ((v.records y).decided m)) [
          | inr still ↦ still ∙ sym never
          | inl now ↦ absurd (false_true (sym never ∙ decided_before y m now))
        ]
      ]

  on : (y : ℕ) (live : Live) → IsLive w y live → HoldOn w v y live
  on y live is = record {
    undecided = elim (either ((v.records y).decided live.number)) [
      | inr never ↦ never
      | inl now ↦ let one = ok.live y live is in
          absurd (false_true (sym one.1.undecided ∙ decided_before y live.number now))
    ];
    holders = λ q i held. (holds_on q y live.number i held, permanent q);
    none_new = λ q i other held. was_held q y live.number i held;
    permanent = λ j. rw (permanent j) (at_most_itself (w.records j).permanent);
  }

  pub confirms_grows : Grows net w v
  confirms_grows = record {
    permanent = λ j. rw (permanent j) (at_most_itself (w.records j).permanent);
    highest = λ j y. let same = ap (λ (f : ℕ → ℕ). f y) (highest j) in omega arith;
    begins = λ j y m i held. inl (was_held j y m i held);
    fate = λ j y m i held. Stays (holds_on j y m i held);
    replaced = λ j. inl (permanent j);
    committed = λ y m now. inl (decided_before y m now);
    names = λ y m q i decided named held. named_still y m q i decided named (was_held q y m i held);
    live = λ y live is. inl (still_live w v y live (live_same y live is) (on y live (live_same y live is)));
    line = λ j. rw (line j) (at_most_itself (effective w.records j));
  }

  pub confirms_agrees : Agreed net v
  confirms_agrees = record {
    highest = λ j y. rw (highest j, highest y) (ok.highest j y);
    named = λ y m q now is_named. rw (highest q)
        (ok.named y m q (decided_before y m now) (named_before y m q is_named));
    holders = λ y m q i other held now.
        let was = was_held q y m i held in
        let decided = decided_before y m now in
        (named_still y m q i decided (ok.holders y m q i other was decided) was).1;
    no_orphan = λ c a b cross. rw (line b, line a) (ok.no_orphan c a b cross);
    live = λ y live is. let one = ok.live y live (live_same y live is) in
        (one.0, live_stays net w v y one.0 live (on y live (live_same y live is)) one.1);
  }
