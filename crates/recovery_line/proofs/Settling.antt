-- A node makes another's image permanent, whose instance is committed: the line stays.
use Rattle.std.proofs.Common.{◌≡◌, inl, inr, ℕ, true, sym, ap, ◌∙◌, arith}
use Rattle.recovery_line.specs.Images.{Image, AtMost, Net}
use Rattle.recovery_line.specs.Records.{Record, Holds, effective}
use Rattle.recovery_line.specs.Moves.{Settles}
use Rattle.recovery_line.specs.Nodes.{Live}
use Rattle.recovery_line.specs.Worlds.{World, IsLive}
use Rattle.recovery_line.specs.Invariant.{Agreed}
use Rattle.recovery_line.proofs.Basics.{false_true, same_or_other, at_most_itself, some_not_none, same_initiator}
use Rattle.recovery_line.proofs.Basics.{same_number, same_image, effective_free, effective_committed}
use Rattle.recovery_line.proofs.Grows as grows
use Rattle.recovery_line.proofs.Grows.{Fate, Replaced, Grows}
use Rattle.recovery_line.proofs.Frames.{OnlyRecord, everywhere, effective_at_others, HoldOn, live_stays, still_live}

pub record Confirmed (w v : World) (k x n : ℕ) (image : Image) : Type 0 where
  pub only : OnlyRecord w v k
  pub settles : Settles (w.records k) (v.records k) x n image
  pub decided : (w.records x).decided n ≡ true
  pub after : AtMost (w.records k).permanent image
  pub live : (y : ℕ) (live : Live) → IsLive v y live → IsLive w y live

module _ (net : Net) (w v : World) (k x n : ℕ) (image : Image) (ok : Agreed net w) (s : Confirmed w v k x n image) where
  decided : (j : ℕ) → (v.records j).decided ≡ (w.records j).decided
  decided = everywhere (λ r. r.decided) w v k s.only s.settles.decided

  named : (j : ℕ) → (v.records j).named ≡ (w.records j).named
  named = everywhere (λ r. r.named) w v k s.only s.settles.named

  highest : (j : ℕ) → (v.records j).highest ≡ (w.records j).highest
  highest = everywhere (λ r. r.highest) w v k s.only s.settles.highest

  rises : (j : ℕ) → AtMost (w.records j).permanent (v.records j).permanent
  rises j = elim (same_or_other j k) [
    | inl is ↦ rw (is, s.settles.permanent) s.after
    | inr other ↦ rw (s.only j other) (at_most_itself (w.records j).permanent)
  ]

  was_held : (j y m : ℕ) (i : Image) → Holds (v.records j) y m i → Holds (w.records j) y m i
  was_held j y m i held = elim (same_or_other j k) [
    | inl is ↦ absurd (some_not_none s.settles.free (rw is at held))
    | inr other ↦ rw (s.only j other) at held
  ]

  fate : (j y m : ℕ) (i : Image) → Holds (w.records j) y m i → Fate w v j y m i
  fate j y m i held = elim (same_or_other j k) [
    | inr other ↦ grows.Stays (rw (s.only j other) held)
    | inl is ↦ grows.Settles (rw is s.settles.free)
        (rw is (s.settles.permanent ∙ same_image (w.records k) x n y m image i s.settles.held (rw is at held)))
  ]

  replaced : (j : ℕ) → Replaced w v j
  replaced j = elim (same_or_other j k) [
    | inr other ↦ inl (ap (λ (r : Record). r.permanent) (s.only j other))
    | inl is ↦ inr
        (x, n, rw (is, s.settles.permanent) s.settles.held, λ over. false_true (sym over.undecided ∙ s.decided))
  ]

  -- a committed instance isn't live
  not_live : (live : Live) → IsLive w x live → live.number ≡ n → ⊥
  not_live live is number = let one = ok.live x live is in false_true (sym one.1.undecided ∙ rw number s.decided)

  on : (y : ℕ) (live : Live) → IsLive w y live → HoldOn w v y live
  on y live is = record {
    undecided = let one = ok.live y live is in rw (decided y) one.1.undecided;
    holders = λ p i held. elim (same_or_other p k) [
      | inr other ↦ (rw (s.only p other) held, ap (λ (r : Record). r.permanent) (s.only p other))
      | inl at_k ↦ absurd
          (not_live live
          (rw (same_initiator (w.records k) y live.number x n i image (rw at_k at held) s.settles.held) at is)
          (same_number (w.records k) y live.number x n i image (rw at_k at held) s.settles.held))
    ];
    none_new = λ p i other held. was_held p y live.number i held;
    permanent = rises;
  }

  line : (j : ℕ) → effective v.records j ≡ effective w.records j
  line j = elim (same_or_other j k) [
    | inl is ↦ rw is
        (effective_free v.records k s.settles.free ∙ s.settles.permanent
        ∙ sym (effective_committed w.records k x n image s.settles.held s.decided))
    | inr other ↦ effective_at_others w.records v.records j (s.only j other) decided
  ]

  pub confirmed_grows : Grows net w v
  confirmed_grows = record {
    permanent = rises;
    highest = λ j y. let same = ap (λ (f : ℕ → ℕ). f y) (highest j) in omega arith;
    begins = λ j y m i held. inl (was_held j y m i held);
    fate = fate;
    replaced = replaced;
    committed = λ y m now. inl (rw (decided y) at now);
    names = λ y m p i is_decided is_named held. (rw (decided y) is_decided, rw (named y) is_named);
    live = λ y live is. inl (still_live w v y live (s.live y live is) (on y live (s.live y live is)));
    line = λ j. rw (line j) (at_most_itself (effective w.records j));
  }

  pub confirmed_agrees : Agreed net v
  confirmed_agrees = record {
    highest = λ p y. rw (highest p, highest y) (ok.highest p y);
    named = λ y m p now is_named. rw (highest p) (ok.named y m p (rw (decided y) at now) (rw (named y) at is_named));
    holders =
        λ y m p i other held now. rw (named y)
        (ok.holders y m p i other (was_held p y m i held) (rw (decided y) at now));
    no_orphan = λ c p q cross. rw (line q, line p) (ok.no_orphan c p q cross);
    live = λ y live is. let one = ok.live y live (s.live y live is) in
        (one.0, live_stays net w v y one.0 live (on y live (s.live y live is)) one.1);
  }
