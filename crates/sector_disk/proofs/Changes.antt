-- The clock of a value that keeps its past.
use Rattle.std.proofs.Common.{◌≡◌, ◌⊎◌, inl, inr, ℕ, ◌≤◌, List, ◌∷◌, length, sym, subst, arith}
use Rattle.sector_disk.specs.Clock.{Elapses}
use Rattle.sector_disk.specs.Past.{LeftBySome}

module _ {T C : Type 0} (may_leave : T → C → Type 0) (end : C → Type 0) where
  -- what might have been left of a value that has this past, and of which a crash now leaves what `end` says
  abbrev pub Left : List T → ℕ → C → Type 0
  Left past t c = ((t ≤ length past) × end c) ⊎ LeftBySome may_leave past t c

  -- the value was `old`, and is another now: all that might have been left of the old one is kept
  changed : (past : List T) (old : T)
      → Elapses (length past) (length (old ∷ past)) (LeftBySome may_leave (old ∷ past)) (Left (old ∷ past)) end
  changed past old = record {
    later = omega arith;
    keeps = λ t c le had. inr had;
    nothing_else = λ t c le left. news t c left;
  }
    where
      news : (t : ℕ) (c : C) → Left (old ∷ past) t c → LeftBySome may_leave (old ∷ past) t c ⊎ end c
      news t c (inl now) = inr now.1
      news t c (inr had) = inl had

  -- the same, with the past as a note has left it
  pub changed_to : (past later : List T) (old : T) → later ≡ old ∷ past
      → Elapses (length past) (length later) (LeftBySome may_leave (old ∷ past)) (Left later) end
  changed_to past later old is =
      subst (λ (l : List T). Elapses (length past) (length l) (LeftBySome may_leave (old ∷ past)) (Left l) end)
      (sym is) (changed past old)
