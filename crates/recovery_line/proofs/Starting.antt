-- A world with which a run may begin is consistent: its images fit together, and all else that is asked of it speaks of
-- nothing there.
use Rattle.std.proofs.Common.{◌≡◌, inl, inr, ℕ, ◌≤◌, Some, None, refl, sym, ap, subst, ◌∙◌, arith}
use Rattle.recovery_line.specs.Images.{Image, Net, AtMost, blank}
use Rattle.recovery_line.specs.Laws.{Opens, StartsConsistently}
use Rattle.recovery_line.specs.Nodes.{Mode, Down, In_doubt, Running, Live, current_of, live_of}
use Rattle.recovery_line.specs.Starts.{IsLine, IsUnbegun, world_at}
use Rattle.recovery_line.specs.Worlds.{node_of}
use Rattle.recovery_line.specs.Invariant.{IsImageOf, Permanent, Held, Current, NodeOk, Agreed, LogsKept, Consistent}

module _ (net : Net) (images : ℕ → Image) (modes : ℕ → Mode) (outlets : ℕ → ℕ) (line : IsLine net images outlets)
    (unbegun : (k : ℕ) → IsUnbegun images modes k) where
  current_is : (k : ℕ) (i : Image) → current_of (modes k) ≡ Some i → images k ≡ i
  current_is k i is = at (unbegun k)
    where
      at : IsUnbegun images modes k → images k ≡ i
      at (inl down) = let no : None ≡ Some i = sym (ap current_of down) ∙ is in absurd (cc)
      at (inr none) =
          let one : Some blank ≡ Some i = sym (ap current_of none.0) ∙ is in
          let same : blank ≡ i = cc in
          none.1 ∙ same

  not_live : (k : ℕ) (live : Live) → live_of (modes k) ≡ Some live → ⊥
  not_live k live is = at (unbegun k)
    where
      at : IsUnbegun images modes k → ⊥
      at (inl down) = let no : None ≡ Some live = sym (ap live_of down) ∙ is in absurd (cc)
      at (inr none) = let no : None ≡ Some live = sym (ap live_of none.0) ∙ is in absurd (cc)

  not_in_doubt : (k : ℕ) → modes k ≡ In_doubt → ⊥
  not_in_doubt k is = at (unbegun k)
    where
      at : IsUnbegun images modes k → ⊥
      at (inl down) = let no : Down ≡ In_doubt = sym down ∙ is in absurd (cc)
      at (inr none) = let no : Running blank None ≡ In_doubt = sym none.0 ∙ is in absurd (cc)

  image_is : (k : ℕ) (i : Image) → IsImageOf (node_of (world_at images modes outlets) k) i → images k ≡ i
  image_is k i (Permanent is) = is
  image_is k i (Held x n is) = absurd (cc)
  image_is k i (Current is) = current_is k i is

  at_most_itself : (i : Image) → AtMost i i
  at_most_itself i c = (omega arith, omega arith, omega arith)

  node_ok : (k : ℕ) → NodeOk net k (node_of (world_at images modes outlets) k)
  node_ok k = record {
    tentative = λ x n i held. absurd (cc);
    current = λ i is. subst (λ (j : Image). AtMost (images k) j) (current_is k i is) (at_most_itself (images k));
    latest = λ x n i j held is. absurd (cc);
    used = λ n decided. absurd (cc);
    older = λ m n i held decided. absurd (cc);
    own = λ live is. absurd (not_live k live is);
    local = λ c i at_home is. subst (λ (j : Image). (j.base c ≤ j.received c) × (j.received c ≤ j.sent c))
        (image_is k i is)
        (line.sound.nothing_lost c k k at_home.from at_home.to, line.sound.no_orphan c k k at_home.from at_home.to);
    output = λ c i out is. subst (λ (j : Image). j.base c ≤ outlets c) (image_is k i is) (line.sound.outputs c k out);
    covered = λ c out. line.covered c k out;
    log = λ c i is. subst (λ (j : Image). j.base c ≤ j.sent c) (image_is k i is) (line.logs c k);
    doubt = λ is. absurd (not_in_doubt k is);
  }

  agreed : Agreed net (world_at images modes outlets)
  agreed = record {
    highest = λ p x. omega arith;
    named = λ x n p decided named. absurd (cc);
    holders = λ x n p i other held decided. absurd (cc);
    no_orphan = λ c p q cross. line.sound.no_orphan c p q cross.from cross.to;
    live = λ x live is. absurd (not_live x live is);
  }

  logs_kept : LogsKept net (world_at images modes outlets)
  logs_kept c p q i cross is = subst (λ (j : Image). j.base c ≤ (images q).received c) (image_is p i is)
      (line.sound.nothing_lost c p q cross.from cross.to)

  consistent : Consistent net (world_at images modes outlets)
  consistent = record {
    nodes = node_ok;
    agreed = agreed;
    logs = logs_kept;
    packets = λ packet there. absurd (let no = there.1 in cc);
  }

pub starts : StartsConsistently
starts net w start =
    subst (Consistent net) (sym start.is)
    (consistent net start.images start.modes start.outlets start.line start.unbegun)

pub may_begin : Opens
may_begin net = record {
  images = λ k. blank;
  modes = λ k. Running blank None;
  outlets = λ c. 0;
  line = record {
    sound = record {
      no_orphan = λ c p q from to. omega arith;
      nothing_lost = λ c p q from to. omega arith;
      outputs = λ c p out. omega arith;
    };
    covered = λ c p out. omega arith;
    logs = λ c p. omega arith;
  };
  unbegun = λ k. inr (refl, refl);
  is = refl;
}
