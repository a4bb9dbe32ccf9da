-- When lists of items may be a network's inputs.
use Rattle.std.specs.Prelude.{◌≡◌, ℕ, ℤ, ◌≤◌, List, [], length, slice_get, Some}
use Rattle.kahn_net.specs.Syntax.{Network}
use Rattle.kahn_net.specs.declared.program.Channel.{Channel}
use Rattle.kahn_net.specs.declared.program.Port.TheVariants.{Process}
use Rattle.kahn_net.specs.declared.limits.TheConstants.{MAX_COUNT}

-- where a process puts on a channel, no items come from outside
abbrev pub IsEmptyWhereMade : Channel → List ℤ → Type 0
IsEmptyWhereMade channel items = (p : ℕ) → channel.producer ≡ Process p → items ≡ []

abbrev pub IsEmptyAt : List Channel → List (List ℤ) → ℕ → Type 0
IsEmptyAt channels inputs c =
    (channel : Channel) (items : List ℤ) → slice_get channels c ≡ Some channel → slice_get inputs c ≡ Some items
    → IsEmptyWhereMade channel items

abbrev pub IsEmptyInside : List Channel → List (List ℤ) → Type 0
IsEmptyInside channels inputs = (c : ℕ) → IsEmptyAt channels inputs c

-- the places of each list are numbers that a count may have
abbrev pub AreCounted : List (List ℤ) → Type 0
AreCounted lists = (c : ℕ) (items : List ℤ) → slice_get lists c ≡ Some items → length items ≤ MAX_COUNT

-- inputs fit a network: there is a list for each channel, none longer than a count goes, and it is empty where a process
-- puts
pub record Fits (net : Network) (inputs : List (List ℤ)) : Type 0 where
  pub count : length inputs ≡ length net.channels
  pub few : AreCounted inputs
  pub inside : IsEmptyInside net.channels inputs
