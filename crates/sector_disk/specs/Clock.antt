-- The words of a clock. A device has a moment, a number that never falls, and tells of each moment what a crash might
-- have left from there on. `C` is what a layer finds after a crash: the bytes of a disk, the value of a cell, a record.
use Rattle.std.specs.Prelude.{◌≡◌, ◌⊎◌, ℕ, ◌≤◌}

-- there is one thing that a crash can leave
abbrev pub Only : {C : Type 0} → C → (C → Type 0) → Type 0
Only {C} one outcomes = (c : C) → outcomes c → c ≡ one

-- A call takes the clock from `before` to `now`: `past` tells what a crash might have left as it began, and `since` as
-- it ends. No moment is forgotten, and the only news is what a crash may leave at the end.
pub record Elapses {C : Type 0} (before now : ℕ) (past since : ℕ → C → Type 0) (may_leave : C → Type 0) : Type 0 where
  pub later : before ≤ now
  pub keeps : (t : ℕ) (c : C) → t ≤ before → past t c → since t c
  pub nothing_else : (t : ℕ) (c : C) → t ≤ before → since t c → past t c ⊎ may_leave c

-- the same of two states of a device
abbrev pub TimePasses : {D C : Type 0} → (D → ℕ) → (D → ℕ → C → Type 0) → (D → C → Type 0) → D → D → Type 0
TimePasses moment left_since may_leave old new =
    Elapses (moment old) (moment new) (left_since old) (left_since new) (may_leave new)

-- Calls lead from `old` to `new`, and whatever a crash leaves at a moment of them has P. For one who counts from an
-- earlier moment they add nothing but P, and take nothing away.
pub record LeavesOnly {D C : Type 0} (moment : D → ℕ) (left_since : D → ℕ → C → Type 0) (old new : D)
    (P : C → Type 0) : Type 0 where
  pub later : moment old ≤ moment new
  pub each : (c : C) → left_since new (moment old) c → P c
  pub before : (t : ℕ) (c : C) → t ≤ moment old → left_since new t c → left_since old t c ⊎ P c
  pub keeps : (t : ℕ) (c : C) → t ≤ moment old → left_since old t c → left_since new t c
