-- Numerals, and the numbers that a text may write.
use Rattle.std.specs.Prelude.{ℕ, ◌^◌, ◌<◌, Bool, false, ◌&&◌, List, [], ◌∷◌}
use Rattle.std.specs.List.{list_all}
use Rattle.std.specs.Char.{is_ascii_digit}
use Rattle.std.specs.Str.Parse.{digits_value}

-- one decimal digit or more, and nothing else
abbrev pub is_numeral : List ℕ → Bool
is_numeral [] = false
is_numeral (b ∷ bs) = is_ascii_digit b && list_all is_ascii_digit bs

-- the number that a numeral writes
abbrev pub numeral_value : List ℕ → ℕ
numeral_value digits = digits_value 10 digits

-- a number that the signed 64 bits hold
abbrev pub IsInRange : ℕ → Type 0
IsInRange n = n < 2 ^ 63
