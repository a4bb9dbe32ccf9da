-- How calls of a device make a run, whatever it is that a crash leaves.
use Rattle.std.proofs.Common.{inl, inr, ⊎_elim, ℕ, arith}
use Rattle.sector_disk.specs.Clock.{Elapses, LeavesOnly}

module _ {D C : Type 0} (moment : D → ℕ) (left_since : D → ℕ → C → Type 0) where
  -- a run of one call: P holds of what a crash leaves at its beginning, and at its end
  pub one_call : (old new : D) (P end : C → Type 0)
      → Elapses (moment old) (moment new) (left_since old) (left_since new) end
      → ((c : C) → left_since old (moment old) c → P c) → ((c : C) → end c → P c)
      → LeavesOnly moment left_since old new P
  one_call old new P end time at_first at_last = record {
    later = time.later;
    each = λ c left. ⊎_elim (at_first c) (at_last c) (time.nothing_else (moment old) c (omega arith) left);
    before = λ t c le left. ⊎_elim (λ had. inl had) (λ now. inr (at_last c now)) (time.nothing_else t c le left);
    keeps = time.keeps;
  }

  -- a run goes on in another, of which no less is known
  pub joined : (old mid new : D) (P Q : C → Type 0) → LeavesOnly moment left_since old mid P
      → LeavesOnly moment left_since mid new Q → ((c : C) → Q c → P c)
      → LeavesOnly moment left_since old new P
  joined old mid new P Q first second within = record {
    later = omega (arith, first.later, second.later);
    each = λ c left. ⊎_elim (first.each c) (within c) (second.before (moment old) c first.later left);
    before =
        λ t c le left. ⊎_elim (first.before t c le) (λ now. inr (within c now))
        (second.before t c (omega (arith, le, first.later)) left);
    keeps = λ t c le had. second.keeps t c (omega (arith, le, first.later)) (first.keeps t c le had);
  }

  -- less is said of a run
  pub weakened : (old new : D) (P Q : C → Type 0) → LeavesOnly moment left_since old new Q → ((c : C) → Q c → P c)
      → LeavesOnly moment left_since old new P
  weakened old new P Q run within = record {
    later = run.later;
    each = λ c left. within c (run.each c left);
    before = λ t c le left. ⊎_elim (λ had. inl had) (λ now. inr (within c now)) (run.before t c le left);
    keeps = run.keeps;
  }
