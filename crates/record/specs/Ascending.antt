-- The order of an image's ends.
use Rattle.std.specs.Prelude.{◌≡◌, ◌<◌, ◌+◌, ℕ, nat_le, ◌&&◌, Bool, true, List, [], ◌∷◌, length}
use Rattle.std.specs.List.{AllPairs, slice_index_or}
use Rattle.record.specs.declared.image.SavedEnd.{SavedEnd}

-- the channel of each end is below those of the ends behind it
abbrev pub AreAscending : List SavedEnd → Type 0
AreAscending ends = AllPairs (λ (x y : SavedEnd). x.channel < y.channel) ends

-- at this place stands an end of this channel
abbrev pub IsPlaceOf : List SavedEnd → ℕ → ℕ → Type 0
IsPlaceOf ends channel place =
    (place < length ends) × ((d : SavedEnd) → (slice_index_or ends place d).channel ≡ channel)

-- no end is of this channel
abbrev pub HasNoneOf : List SavedEnd → ℕ → Type 0
HasNoneOf ends channel = (k : ℕ) (d : SavedEnd) → k < length ends → ¬ ((slice_index_or ends k d).channel ≡ channel)

-- whether they do so, from the least channel that is left on
abbrev pub ascend_from : ℕ → List SavedEnd → Bool
ascend_from least [] = true
ascend_from least (e ∷ ends) = nat_le least e.channel && ascend_from (e.channel + 1) ends
