-- What is put behind histories.
use Rattle.std.specs.Prelude.{◌≡◌, ℕ, ◌+◌, ◌<◌, ℤ, List, [], ◌++◌, length}
use Rattle.kahn_net.specs.Common.{history_of}
use Rattle.kahn_net.specs.declared.limits.TheConstants.{MAX_HISTORY_ITEMS}

-- each of these histories has then what it had, and behind it what there is of its channel here
abbrev pub IsAdded : List (List ℤ) → List (List ℤ) → List (List ℤ) → Type 0
IsAdded more before after =
    (c : ℕ) → c < length before → history_of after c ≡ history_of before c ++ history_of more c

-- none of them has an item
abbrev pub AreAllEmpty : List (List ℤ) → Type 0
AreAllEmpty all = (c : ℕ) → history_of all c ≡ []

-- with what was added and what was sent some history is too long
pub record IsPast (here added sent : List (List ℤ)) : Type 0 where
  pub c : ℕ
  pub below : c < length added
  pub past : MAX_HISTORY_ITEMS
      < length (history_of here c) + length (history_of added c) + length (history_of sent c)
