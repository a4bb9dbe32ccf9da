-- What a value has been, and what a crash at one of these moments might have left of it.
use Rattle.std.specs.Prelude.{◌⊎◌, ℕ, ◌≤◌, List, [], ◌∷◌, length}
use Rattle.std.proofs.Common.{inl, inr, arith}
use Rattle.sector_disk.specs.declared.past.Past.{Past, Nothing, After'}

-- its earlier states, the newest first
abbrev pub states_of : {T : Type 0} → Past T → List T
states_of Nothing = []
states_of (After' marker before state) = state.value ∷ states_of before

-- A state's moment is the number of states before it. One of those from moment t on may leave this.
abbrev pub LeftBySome : {T C : Type 0} → (T → C → Type 0) → List T → ℕ → C → Type 0
LeftBySome may_leave [] t c = ⊥
LeftBySome may_leave (state ∷ earlier) t c =
    ((t ≤ length earlier) × may_leave state c) ⊎ LeftBySome may_leave earlier t c

module _ {T C : Type 0} (may_leave : T → C → Type 0) where
  none_later : (states : List T) (t : ℕ) (c : C) → length states ≤ t → LeftBySome may_leave states t c → ⊥
  none_later [] t c le left = left
  none_later (state ∷ earlier) t c le (inl left) = absurd (omega (arith, le, left.0))
  none_later (state ∷ earlier) t c le (inr left) = none_later earlier t c (omega (arith, le)) left

  -- from the last moment on there is what it is now
  pub now_alone : (end : C → Type 0) (past : List T) (c : C)
      → ((length past ≤ length past) × end c) ⊎ LeftBySome may_leave past (length past) c → end c
  now_alone end past c (inl left) = left.1
  now_alone end past c (inr left) = absurd (none_later past (length past) c (omega arith) left)
