-- Which process goes on next.
use Rattle.std.specs.Prelude.{◌≡◌, ℕ, suc, ◌≤◌, Bool, true, false, if◌then◌else◌, List, [], ◌∷◌, drop, slice_index_or}
use Rattle.std.specs.Prelude.{Option, Some, None}

-- the process of this number is ready
abbrev pub IsReady : List Bool → ℕ → Type 0
IsReady ready process = slice_index_or ready process false ≡ true

-- the numbers after the last one granted begin here: each comes after it where there was none
abbrev pub start_after : Option ℕ → ℕ
start_after None = 0
start_after (Some last) = suc last

abbrev pub IsAfter : Option ℕ → ℕ → Type 0
IsAfter last process = start_after last ≤ process

-- The process that is next: where a ready one comes after the last one granted, the least of these, and else the least
-- of all ready ones.
pub record IsNext (last : Option ℕ) (ready : List Bool) (process : ℕ) : Type 0 where
  pub is_ready : IsReady ready process
  pub after : (other : ℕ) → IsReady ready other → IsAfter last other → IsAfter last process × (process ≤ other)
  pub again : (other : ℕ) → IsReady ready other → ¬ (IsAfter last process) → process ≤ other

-- the least of the ready ones from this number on
pub record IsLeastFrom (start : ℕ) (ready : List Bool) (process : ℕ) : Type 0 where
  pub is_ready : IsReady ready process
  pub within : start ≤ process
  pub least : (other : ℕ) → IsReady ready other → start ≤ other → process ≤ other

-- the same as functions: the number of the first ready one, in a list that begins with this number
abbrev pub first_ready : ℕ → List Bool → Option ℕ
first_ready number [] = None
first_ready number (is_ready ∷ rest) = if is_ready then Some number else first_ready (suc number) rest

abbrev pub least_from : ℕ → List Bool → Option ℕ
least_from start ready = first_ready start (drop start ready)

abbrev pub or_else : {A : Type 0} → Option A → Option A → Option A
or_else None other = other
or_else (Some x) other = Some x

abbrev pub next_in_turn : Option ℕ → List Bool → Option ℕ
next_in_turn last ready = or_else (least_from (start_after last) ready) (least_from 0 ready)
