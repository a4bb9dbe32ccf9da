-- What stays where one node's record is written, and what a live instance needs of that.
use Rattle.std.proofs.Common.{◌≡◌, inl, inr, ℕ, Bool, false, refl, ap, arith}
use Rattle.std.specs.Prelude.{◌≢◌}
use Rattle.recovery_line.specs.Images.{Image, AtMost, Net}
use Rattle.recovery_line.specs.Records.{Record, Holds, effective}
use Rattle.recovery_line.specs.Nodes.{Live}
use Rattle.recovery_line.specs.Worlds.{World, IsLive}
use Rattle.recovery_line.specs.Invariant.{NeedOf, LiveOk}
use Rattle.recovery_line.proofs.Basics.{same_or_other, effective_stays}
use Rattle.recovery_line.proofs.Grows.{StillLive}

-- only node k's record differs
abbrev pub OnlyRecord : World → World → ℕ → Type 0
OnlyRecord w v k = (j : ℕ) → j ≢ k → v.records j ≡ w.records j

-- a part that stays at node k stays everywhere
pub everywhere : {A : Type 0} → (part : Record → A) (w v : World) (k : ℕ) → OnlyRecord w v k
    → part (v.records k) ≡ part (w.records k) → (j : ℕ) → part (v.records j) ≡ part (w.records j)
everywhere part w v k only same j =
    elim (same_or_other j k) [ inl is ↦ rw is same | inr other ↦ ap part (only j other) ]

-- a node with the same record has the same effective image, where the same is decided
pub effective_at_others : (records later : ℕ → Record) (k : ℕ) → later k ≡ records k
    → ((x : ℕ) → (later x).decided ≡ (records x).decided) → effective later k ≡ effective records k
effective_at_others records later k same decided =
    effective_stays records later k (ap (λ (r : Record). r.tentative) same) (ap (λ (r : Record). r.permanent) same)
    (λ x n i held. ap (λ (f : ℕ → Bool). f n) (decided x))

-- the holders of a live instance hold on, and no others come
pub record HoldOn (w v : World) (x : ℕ) (live : Live) : Type 0 where
  pub undecided : (v.records x).decided live.number ≡ false
  pub holders : (p : ℕ) (i : Image) → Holds (w.records p) x live.number i
      → Holds (v.records p) x live.number i × ((v.records p).permanent ≡ (w.records p).permanent)
  pub none_new : (p : ℕ) (i : Image) → p ≢ x → Holds (v.records p) x live.number i → Holds (w.records p) x live.number i
  pub permanent : (k : ℕ) → AtMost (w.records k).permanent (v.records k).permanent

pub need_stays : (net : Net) (w v : World) (x : ℕ) (live : Live) (p : ℕ) (i : Image) → HoldOn w v x live
    → Holds (w.records p) x live.number i → NeedOf net w.records x live p → NeedOf net v.records x live p
need_stays net w v x live p i on held need = record {
  channel = need.channel;
  by = need.by;
  image = need.image;
  cross = need.cross;
  held = (on.holders need.by need.image need.held).0;
  earlier = need.earlier;
  above = rw ((on.holders p i held).1) need.above;
}

pub live_stays : (net : Net) (w v : World) (x : ℕ) (own : Image) (live : Live) → HoldOn w v x live
    → LiveOk net w.records x own live → LiveOk net v.records x own live
live_stays net w v x own live on ok = record {
  held = (on.holders x own ok.held).0;
  undecided = on.undecided;
  takers = λ p takes. let was = ok.takers p takes in (was.0, (was.1.0, (on.holders p was.1.0 was.1.1).0));
  needs = λ c p cross above. ok.needs c p cross (rw ((on.holders x own ok.held).1) at above);
  takers_needs = λ c p q i cross takes held above.
      let was = on.none_new q i (ok.takers q takes).0 held in
      ok.takers_needs c p q i cross takes was (rw ((on.holders q i was).1) at above);
  took = λ c p q m cross asked. let was = ok.took c p q m cross asked in
      (was.0, λ i held. was.1 i (on.none_new p i (ok.takers p was.0).0 held));
  covered = λ c p q m cross asked. let was = ok.covered c p q m cross asked in let rises = (on.permanent p c).2 in
      omega arith;
  holders = λ p i other held.
      let was = on.none_new p i other held in
      let ask = ok.holders p i other was in
      record {
        channel = ask.channel;
        to = ask.to;
        count = ask.count;
        answer = ask.answer;
        cross = ask.cross;
        asked =
            ask.asked;
        above = rw ((on.holders p i was).1) ask.above;
      };
  witnessed = λ c m answer asked. let was = ok.witnessed c m answer asked in
      (was.0, was.1, was.2, was.3, was.4, (on.holders was.1 was.2 was.5).0, was.6, was.7);
  needed = λ p takes. let held = (ok.takers p takes).1 in
      need_stays net w v x live p held.0 on held.1 (ok.needed p takes);
}

-- so the same instance is live still
pub still_live : (w v : World) (x : ℕ) (live : Live) → IsLive w x live → HoldOn w v x live → StillLive w v x live
still_live w v x live is on = record {
  live = live;
  is = is;
  number = refl;
  asks = λ c m answer asked. (answer, asked);
  holders = λ p i other held. on.holders p i held;
}
