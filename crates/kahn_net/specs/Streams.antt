-- Histories: the items that go over each channel, by the channel's number. After Kahn, "The semantics of a simple
-- language for parallel programming" (1974): a network means the histories of its channels, whole lists without machine
-- or schedule.
use Rattle.std.specs.Prelude.{◌≡◌, ℕ, ◌+◌, ℤ, List, [], ◌∷◌, length, slice_index_or, take}

-- the history of a channel, a list of its items in order; it is empty where there is no such channel
abbrev pub history_of : List (List ℤ) → ℕ → List ℤ
history_of histories channel = slice_index_or histories channel []

-- `part` is as many of the first items of `whole`
abbrev pub IsPrefix : List ℤ → List ℤ → Type 0
IsPrefix part whole = part ≡ take (length part) whole

-- each history of the one is a prefix of the other's
pub record ArePrefixes (small big : List (List ℤ)) : Type 0 where
  pub at : (channel : ℕ) → IsPrefix (history_of small channel) (history_of big channel)

-- how many items there are in all
abbrev pub total : List (List ℤ) → ℕ
total [] = 0
total (history ∷ histories) = length history + total histories
