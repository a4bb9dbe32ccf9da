-- Items as lines of text.
use Rattle.std.specs.Prelude.{ℕ, ℤ, List, [], ◌∷◌, ◌++◌}
use Rattle.std.specs.Fmt.{signed_decimal}
use Rattle.std.specs.Int.{w64}
use Rattle.std.specs.Int.RustNames.{FitsSigned}
use Rattle.std.specs.List.{AllByRecursion}

-- an item in decimal digits, behind a minus where it is negative, and a line feed
abbrev pub item_line : ℤ → List ℕ
item_line item = signed_decimal item ++ 10 ∷ []

-- the lines of these items, one for each and one after another
abbrev pub lines_of : List ℤ → List ℕ
lines_of [] = []
lines_of (item ∷ items) = item_line item ++ lines_of items

-- each is a number of signed 64 bits
abbrev pub AreItems : List ℤ → Type 0
AreItems items = AllByRecursion (FitsSigned w64) items
