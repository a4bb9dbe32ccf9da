-- How a stack of values lies in memory: its topmost value by itself, and the others under it, the nearest first. Below all of
-- them lies one more, which is 0 and no value of the stack.
use Rattle.std.specs.Prelude.{ℤ, List, [], ◌∷◌}

-- the values of the stack, the topmost first: all but the one that lies below them
abbrev pub above_lowest : ℤ → List ℤ → List ℤ
above_lowest highest [] = []
above_lowest highest (value ∷ under) = highest ∷ above_lowest value under

-- the one that lies below them
abbrev pub lowest : ℤ → List ℤ → ℤ
lowest highest [] = highest
lowest highest (value ∷ under) = lowest value under
