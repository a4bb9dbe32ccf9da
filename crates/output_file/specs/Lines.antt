-- An output's items as lines of text.
use Rattle.std.specs.Prelude.{◌≡◌, ◌≢◌, ℕ, ◌+◌, ℤ, List, [], ◌∷◌, ◌++◌, length}
use Rattle.std.specs.Fmt.{signed_decimal}
use Rattle.std.specs.Int.{w64}
use Rattle.std.specs.Int.RustNames.{FitsSigned}
use Rattle.std.specs.List.{AllByRecursion}

-- an item in decimal digits, behind a minus where it is negative, and a line feed
abbrev pub item_line : ℤ → List ℕ
item_line item = signed_decimal item ++ 10 ∷ []

-- the lines of these items, one for each and one after another
abbrev pub lines_of : List ℤ → List ℕ
lines_of [] = []
lines_of (item ∷ items) = item_line item ++ lines_of items

-- each is a number of signed 64 bits
abbrev pub AreItems : List ℤ → Type 0
AreItems items = AllByRecursion (FitsSigned w64) items

-- no byte of them ends a line
abbrev pub HasNoFeed : List ℕ → Type 0
HasNoFeed bytes = AllByRecursion (λ byte. byte ≢ 10) bytes

-- the bytes are these items' lines, and behind them a line that was cut off, which may be empty
pub record HoldsLines (bytes : List ℕ) (items : List ℤ) (tail : List ℕ) : Type 0 where
  pub each : AreItems items
  pub whole : bytes ≡ lines_of items ++ tail
  pub cut_off : HasNoFeed tail

-- no item is written so
abbrev pub IsNoItem : List ℕ → Type 0
IsNoItem line = (item : ℤ) → FitsSigned w64 item → line ≢ signed_decimal item

-- The first line that ends with a line feed and is no item's line has this number, from 1 on.
pub record HasBadLine (bytes : List ℕ) (number : ℕ) : Type 0 where
  pub before : List ℤ
  pub line : List ℕ
  pub after : List ℕ
  pub each : AreItems before
  pub whole : bytes ≡ lines_of before ++ (line ++ 10 ∷ after)
  pub one_line : HasNoFeed line
  pub no_item : IsNoItem line
  pub numbered : number ≡ length before + 1
