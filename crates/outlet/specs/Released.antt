-- What an outlet takes when a log's items up to a position are released.
use Rattle.std.specs.Prelude.{◌≡◌, ℕ, ◌-◌, ◌<◌, ◌≤◌, List, ◌++◌, ℤ, length, take, drop}
use Rattle.retained.specs.LogState.{LogState, log_end}

-- the log's items from the position `len` to the one before `covered`; none where `covered` is at most `len`
abbrev pub released_items : LogState → ℕ → ℕ → List ℤ
released_items log len covered = take (covered - len) (drop (len - log.base) log.items)

-- an outlet that took so many items can go on by this log, up to the position `covered`
pub record CanRelease (log : LogState) (len covered : ℕ) : Type 0 where
  pub no_gap : log.base ≤ len
  pub within : covered ≤ log_end log

-- an outlet took a beginning of these items, and it hadn't got all of them
pub record TookSome (items old new : List ℤ) : Type 0 where
  pub count : ℕ
  pub some_left : count < length items
  pub taken : new ≡ old ++ take count items

-- an outlet took a beginning of these items, of which there are some, and it may have got all of them
pub record TookSomeOrAll (items old new : List ℤ) : Type 0 where
  pub count : ℕ
  pub at_most_all : count ≤ length items
  pub something : 0 < length items
  pub taken : new ≡ old ++ take count items
