-- When an answer is the one that is wanted.
use Rattle.std.specs.Prelude.{ℕ, List, [], ◌≡◌, ◌≢◌, ◌++◌, ◌∷◌, ◌⊎◌}

-- The answer is this beginning, alone or with a space (32) and more behind it.
abbrev pub Begins : List ℕ → List ℕ → Type 0
Begins first came = (came ≡ first) ⊎ ((rest : List ℕ) × (came ≡ first ++ 32 ∷ rest))

-- The answer is the one that is wanted: the same, or, where what is wanted ends in ` ..` (32, 46, 46), one that begins
-- with what stands before that.
abbrev pub IsWanted : List ℕ → List ℕ → Type 0
IsWanted wanted came = (((first : List ℕ) → wanted ≢ first ++ 32 ∷ 46 ∷ 46 ∷ []) → came ≡ wanted)
    × ((first : List ℕ) → wanted ≡ first ++ 32 ∷ 46 ∷ 46 ∷ [] → Begins first came)
