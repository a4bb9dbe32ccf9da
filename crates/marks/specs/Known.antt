-- What a seat knows of the marks, and what it learns by a raise and by a read.
use Rattle.std.specs.Prelude.{◌≡◌, ◌≢◌, ℕ, List, [], ◌∷◌, ◌++◌, max, slice_index_or}
use Rattle.marks.specs.declared.view.View.{View}

-- the greatest of the numbers; 0 where there is none
abbrev pub greatest : List ℕ → ℕ
greatest [] = 0
greatest (number ∷ numbers) = max number (greatest numbers)

-- the whole list begins with this part
abbrev pub BeginsWith : List ℕ → List ℕ → Type 0
BeginsWith whole part = (rest : List ℕ) × (whole ≡ part ++ rest)

-- the numbers that were raised for a channel, as far as the seat knows, in the order in which they were raised
abbrev pub known_of : View → ℕ → List ℕ
known_of view channel = slice_index_or view.known channel []

-- of each other channel the seat knows what it did
abbrev pub KnowsOthersAsBefore : View → ℕ → View → Type 0
KnowsOthersAsBefore before channel after = (other : ℕ) → other ≢ channel → known_of after other ≡ known_of before other

-- the seat has raised this number for the channel, and knows of it
pub record HasRaised (before : View) (channel number : ℕ) (after : View) : Type 0 where
  pub node : after.node ≡ before.node
  pub raised : known_of after channel ≡ known_of before channel ++ number ∷ []
  pub others : KnowsOthersAsBefore before channel after

-- The seat has read this number of the channel. It is the greatest of the numbers that the seat knows now, and these
-- begin with those that it knew before.
pub record HasRead (before : View) (channel found : ℕ) (after : View) : Type 0 where
  pub node : after.node ≡ before.node
  pub grows : BeginsWith (known_of after channel) (known_of before channel)
  pub is_greatest : found ≡ greatest (known_of after channel)
  pub others : KnowsOthersAsBefore before channel after
