-- What a reader keeps between two pieces of bytes.
use Rattle.std.specs.Prelude.{ℕ, ◌+◌, ◌-◌, ◌^◌, ◌==◌, min, if◌then◌else◌, List, [], ◌++◌, Option, Some, None, length}
use Rattle.item_bytes.specs.Bytes.{rest_of, whole_count}

-- the bytes of the item that isn't whole yet, and how many items are
pub record ReaderState : Type 0 where
  pub kept : List ℕ
  pub count : ℕ

-- nothing was read yet
abbrev pub beginning : ReaderState
beginning = record { kept = []; count = 0 }

-- these bytes more; past the largest number of 64 bits nothing is counted
abbrev pub read_on : ReaderState → List ℕ → ReaderState
read_on state bytes = record {
  kept = rest_of (state.kept ++ bytes);
  count = min (state.count + whole_count (state.kept ++ bytes)) (2 ^ 64 - 1);
}

-- the item that isn't whole, counted from 1
abbrev pub cut_of : ReaderState → Option ℕ
cut_of state = if length state.kept == 0 then None else Some (min (state.count + 1) (2 ^ 64 - 1))
