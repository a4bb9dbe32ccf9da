-- What clauses see of a network's inputs of which items were let go of: all that came, and how many of them are gone.
use Rattle.std.specs.Prelude.{◌≡◌, ℕ, ℤ, ◌<◌, ◌≤◌, List, ◌++◌, length, map, drop, replicate, reverse, slice_index_or}
use Rattle.kahn_net.specs.Streams.{history_of}
use Rattle.kahn_net.specs.declared.limits.TheConstants.{MAX_COUNT}
use Rattle.sector_disk.specs.Past.{states_of}
use Rattle.sector_disk.specs.declared.past.Past.{Past}

-- one input: all that came on it, and the position from which on its items are at hand
pub record ListView : Type 0 where
  pub came : List ℤ
  pub base : ℕ

-- an input on which this came, with nothing let go of
abbrev pub began : List ℤ → ListView
began history = record { came = history; base = 0 }

-- each input, by its channel's number
pub record ArrivedView : Type 0 where
  pub came : List (List ℤ)
  pub bases : List ℕ

-- the position from which on the items of a channel are at hand; it is 0 where there is no such channel
abbrev pub base_of : List ℕ → ℕ → ℕ
base_of bases channel = slice_index_or bases channel 0

-- nothing was let go of, of so many inputs
abbrev pub none_gone : ℕ → List ℕ
none_gone count = replicate count 0

-- what the inputs are of which each is this
abbrev pub arrived_view : List ListView → ArrivedView
arrived_view lists = record { came = map (λ list. list.came) lists; bases = map (λ list. list.base) lists }

-- all that came on an input: what it began with, and then each item that was noted
abbrev pub all_came : List ℤ → Past ℤ → List ℤ
all_came first later = first ++ reverse (states_of later)

-- in memory are the items from the base on
pub record IsKept (came : List ℤ) (base : ℕ) (items : List ℤ) : Type 0 where
  pub few : length came ≤ MAX_COUNT
  pub within : base ≤ length came
  pub rest : items ≡ drop base came

-- there is such a list, and the position is one from its base to its end
pub record MayLetGo (arrived : ArrivedView) (channel position : ℕ) : Type 0 where
  pub here : channel < length arrived.came
  pub from_base : base_of arrived.bases channel ≤ position
  pub to_end : position ≤ length (history_of arrived.came channel)
