-- A step that writes no record: the line stays, and so does what the records of two nodes agree on.
use Rattle.std.proofs.Common.{◌≡◌, inl, inr, ℕ, Some, refl, sym, ap, arith}
use Rattle.std.specs.Prelude.{◌≢◌}
use Rattle.recovery_line.specs.Images.{Image, Net}
use Rattle.recovery_line.specs.Records.{Record, effective}
use Rattle.recovery_line.specs.Nodes.{Answer, Live}
use Rattle.recovery_line.specs.Worlds.{World, IsLive}
use Rattle.recovery_line.specs.Invariant.{LiveOk, Agreed}
use Rattle.recovery_line.proofs.Basics.{same_or_other, at_most_itself, one_inside}
use Rattle.recovery_line.proofs.Grows.{Stays, Grows, StillLive}

-- no record changes, and what is live was live
pub record Quiet (w v : World) : Type 0 where
  pub records : v.records ≡ w.records
  pub live : (y : ℕ) (live : Live) → IsLive v y live → IsLive w y live

-- the questions of one live instance alone change, and none goes
pub record Learns (w v : World) (x : ℕ) (before later : Live) : Type 0 where
  pub records : v.records ≡ w.records
  pub was : IsLive w x before
  pub now : IsLive v x later
  pub number : later.number ≡ before.number
  pub asks : (c m : ℕ) (answer : Answer) → before.asks c ≡ Some (m, answer)
      → (next : Answer) × (later.asks c ≡ Some (m, next))
  pub others : (y : ℕ) (live : Live) → y ≢ x → IsLive v y live → IsLive w y live

-- whichever live instances there are
grows_by : (net : Net) (w v : World) → v.records ≡ w.records
    → ((x : ℕ) (now : Live) → IsLive v x now → StillLive w v x now) → Grows net w v
grows_by net w v same live = record {
  permanent = λ k. rw same (at_most_itself (w.records k).permanent);
  highest = λ k y. rw same (omega arith);
  begins = λ k x n i held. inl (rw same at held);
  fate = λ k x n i held. Stays (rw same held);
  replaced = λ k. inl (ap (λ (records : ℕ → Record). (records k).permanent) same);
  committed = λ x n now. inl (rw same at now);
  names = λ x n p i decided named held. (rw same decided, rw same named);
  live = λ x now is. inl (live x now is);
  line = λ k. rw same (at_most_itself (effective w.records k));
}

pub quiet_grows : (net : Net) (w v : World) → Quiet w v → Grows net w v
quiet_grows net w v s = grows_by net w v s.records (λ x now is. record {
  live = now;
  is = s.live x now is;
  number = refl;
  asks = λ c m answer asked. (answer, asked);
  holders = λ p i other held. (rw (s.records) held, ap (λ (records : ℕ → Record). (records p).permanent) s.records);
})

pub quiet_agrees : (net : Net) (w v : World) → Agreed net w → Quiet w v → Agreed net v
quiet_agrees net w v ok s = record {
  highest = rw (s.records) ok.highest;
  named = rw (s.records) ok.named;
  holders = rw (s.records) ok.holders;
  no_orphan = rw (s.records) ok.no_orphan;
  live = λ x live is. let one = ok.live x live (s.live x live is) in (one.0, rw (s.records) one.1);
}

pub hears_grows : (net : Net) (w v : World) (x : ℕ) (before later : Live) → Learns w v x before later → Grows net w v
hears_grows net w v x before later s = grows_by net w v s.records (λ y now is. elim (same_or_other y x) [
  | inl this ↦ let same : now ≡ later = one_inside (rw this at is) s.now in record {
    live = before;
    is = rw this (s.was);
    number = rw same (sym s.number);
    asks = λ c m answer asked. rw same (s.asks c m answer asked);
    holders = λ p i other held. (rw (s.records) held, ap (λ (records : ℕ → Record). (records p).permanent) s.records);
  }
  | inr other ↦ record {
    live = now;
    is = s.others y now other is;
    number = refl;
    asks = λ c m answer asked. (answer, asked);
    holders = λ p i apart held. (rw (s.records) held, ap (λ (records : ℕ → Record). (records p).permanent) s.records);
  }
])

pub hears_agrees : (net : Net) (w v : World) (x : ℕ) (own : Image) (before later : Live) → Agreed net w
    → Learns w v x before later → LiveOk net w.records x own later → Agreed net v
hears_agrees net w v x own before later ok s fine = record {
  highest = rw (s.records) ok.highest;
  named = rw (s.records) ok.named;
  holders = rw (s.records) ok.holders;
  no_orphan = rw (s.records) ok.no_orphan;
  live = λ y now is. elim (same_or_other y x) [
    | inl this ↦ let same : now ≡ later = one_inside (rw this at is) s.now in (own, rw (s.records, this, same) fine)
    | inr other ↦ let one = ok.live y now (s.others y now other is) in (one.0, rw (s.records) one.1)
  ];
}
