-- Histories that are longer than they may be.
use Rattle.std.specs.Prelude.{ℕ, ℤ, List, ◌≤◌, ◌<◌, length, slice_index}
use Rattle.kahn_net.specs.Common.{history_of, Network, approximation}
use Rattle.kahn_net.specs.declared.limits.TheConstants.{MAX_HISTORY_ITEMS}

-- each list has at most 1,048,576 items
abbrev pub AreShort : List (List ℤ) → Type 0
AreShort lists = (c : ℕ) → length (history_of lists c) ≤ MAX_HISTORY_ITEMS

-- some list has more
pub record HasLongList (lists : List (List ℤ)) : Type 0 where
  pub channel : ℕ
  pub long : MAX_HISTORY_ITEMS < length (history_of lists channel)

-- an approximation up to the n-th has a history of more than 1,048,576 items
pub record HasLongHistory (net : Network) (inputs : List (List ℤ)) (n : ℕ) : Type 0 where
  pub round : ℕ
  pub up_to : round ≤ n
  pub channel : ℕ
  pub long : MAX_HISTORY_ITEMS < length (history_of (approximation net inputs round) channel)

-- each history has at most as many items as the limit of its channel
pub record IsWithin (limits : List ℕ) (histories : List (List ℤ)) : Type 0 where
  pub at : (channel : ℕ) → length (history_of histories channel) ≤ slice_index limits channel

-- some history has more
pub record GoesPast (limits : List ℕ) (histories : List (List ℤ)) : Type 0 where
  pub channel : ℕ
  pub past : slice_index limits channel < length (history_of histories channel)
