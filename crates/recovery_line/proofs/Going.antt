-- A tentative image goes whose instance is neither decided nor live: the line stays.
use Rattle.std.proofs.Common.{◌≡◌, inl, inr, ℕ, false, sym, ap, ◌∙◌, arith}
use Rattle.std.specs.Prelude.{◌≢◌}
use Rattle.recovery_line.specs.Images.{Image, Net}
use Rattle.recovery_line.specs.Records.{Holds, effective}
use Rattle.recovery_line.specs.Moves.{Drops}
use Rattle.recovery_line.specs.Nodes.{Live}
use Rattle.recovery_line.specs.Worlds.{World, IsLive}
use Rattle.recovery_line.specs.Invariant.{Agreed}
use Rattle.recovery_line.proofs.Basics.{same_or_other, at_most_itself, some_not_none, same_initiator, same_number}
use Rattle.recovery_line.proofs.Basics.{effective_free, effective_open}
use Rattle.recovery_line.proofs.Grows.{Stays, Goes, Fate, Grows}
use Rattle.recovery_line.proofs.Frames.{OnlyRecord, everywhere, effective_at_others, HoldOn, live_stays, still_live}

pub record Leaves (w v : World) (k x n : ℕ) (image : Image) : Type 0 where
  pub only : OnlyRecord w v k
  pub drops : Drops (w.records k) (v.records k) x n image
  pub undecided : (w.records x).decided n ≡ false
  pub live : (y : ℕ) (live : Live) → IsLive v y live → IsLive w y live
  pub closed : (live : Live) → IsLive v x live → live.number ≢ n

module _ (net : Net) (w v : World) (k x n : ℕ) (image : Image) (ok : Agreed net w) (s : Leaves w v k x n image) where
  decided : (j : ℕ) → (v.records j).decided ≡ (w.records j).decided
  decided = everywhere (λ r. r.decided) w v k s.only s.drops.decided

  named : (j : ℕ) → (v.records j).named ≡ (w.records j).named
  named = everywhere (λ r. r.named) w v k s.only s.drops.named

  highest : (j : ℕ) → (v.records j).highest ≡ (w.records j).highest
  highest = everywhere (λ r. r.highest) w v k s.only s.drops.highest

  permanent : (j : ℕ) → (v.records j).permanent ≡ (w.records j).permanent
  permanent = everywhere (λ r. r.permanent) w v k s.only s.drops.permanent

  was_held : (j y m : ℕ) (i : Image) → Holds (v.records j) y m i → Holds (w.records j) y m i
  was_held j y m i held = elim (same_or_other j k) [
    | inl is ↦ absurd (some_not_none s.drops.free (rw is at held))
    | inr other ↦ rw (s.only j other) at held
  ]

  fate : (j y m : ℕ) (i : Image) → Holds (w.records j) y m i → Fate w v j y m i
  fate j y m i held = elim (same_or_other j k) [
    | inr other ↦ Stays (rw (s.only j other) held)
    | inl is ↦ Goes
        (rw (
          same_initiator (w.records k) y m x n i image (rw is at held) s.drops.held,
          same_number (w.records k) y m x
              n i image (rw is at held) s.drops.held,
        ) s.undecided)
  ]

  on : (y : ℕ) (live : Live) → IsLive v y live → HoldOn w v y live
  on y live is = record {
    undecided = let one = ok.live y live (s.live y live is) in rw (decided y) one.1.undecided;
    holders = λ p i held. (holds p i held, permanent p);
    none_new = λ p i other held. was_held p y live.number i held;
    permanent = λ j. rw (permanent j) (at_most_itself (w.records j).permanent);
  }
    where
      holds : (p : ℕ) (i : Image) → Holds (w.records p) y live.number i → Holds (v.records p) y live.number i
      holds p i held = elim (same_or_other p k) [
        | inr other ↦ rw (s.only p other) held
        | inl at_k ↦ absurd
            (s.closed live
            (rw (same_initiator (w.records k) y live.number x n i image (rw at_k at held) s.drops.held) at is)
            (same_number (w.records k) y live.number x n i image (rw at_k at held) s.drops.held))
      ]

  line : (j : ℕ) → effective v.records j ≡ effective w.records j
  line j = elim (same_or_other j k) [
    | inl is ↦ rw is
        (effective_free v.records k s.drops.free ∙ s.drops.permanent
        ∙ sym (effective_open w.records k x n image s.drops.held s.undecided))
    | inr other ↦ effective_at_others w.records v.records j (s.only j other) decided
  ]

  pub leaves_grows : Grows net w v
  leaves_grows = record {
    permanent = λ j. rw (permanent j) (at_most_itself (w.records j).permanent);
    highest = λ j y. let same = ap (λ (f : ℕ → ℕ). f y) (highest j) in omega arith;
    begins = λ j y m i held. inl (was_held j y m i held);
    fate = fate;
    replaced = λ j. inl (permanent j);
    committed = λ y m now. inl (rw (decided y) at now);
    names = λ y m p i is_decided is_named held. (rw (decided y) is_decided, rw (named y) is_named);
    live = λ y live is. inl (still_live w v y live (s.live y live is) (on y live is));
    line = λ j. rw (line j) (at_most_itself (effective w.records j));
  }

  pub leaves_agrees : Agreed net v
  leaves_agrees = record {
    highest = λ p y. rw (highest p, highest y) (ok.highest p y);
    named = λ y m p now is_named. rw (highest p) (ok.named y m p (rw (decided y) at now) (rw (named y) at is_named));
    holders =
        λ y m p i other held now. rw (named y)
        (ok.holders y m p i other (was_held p y m i held) (rw (decided y) at now));
    no_orphan = λ c p q cross. rw (line q, line p) (ok.no_orphan c p q cross);
    live = λ y live is. let one = ok.live y live (s.live y live is) in
        (one.0, live_stays net w v y one.0 live (on y live is) one.1);
  }
