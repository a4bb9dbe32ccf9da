-- What leaves a network, by all its outputs.
use Rattle.std.specs.Prelude.{ℕ, ℤ, ◌==◌, if◌then◌else◌, List, [], ◌∷◌, ◌++◌}
use Rattle.outside.specs.declared.departure.Departure.{Departure}

-- the items of these that left by one output, the first ones first, where the newest one stands first here
abbrev pub items_by : ℕ → List Departure → List ℤ
items_by output [] = []
items_by output (one ∷ earlier) =
    if one.output == output then items_by output earlier ++ one.item ∷ [] else items_by output earlier
