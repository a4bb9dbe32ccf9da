-- Which sectors are in doubt: a flag for each.
use Rattle.std.specs.Prelude.{◌≡◌, ℕ, ◌+◌, Bool, true, false, List, ◌++◌, take, drop, replicate}
use Rattle.std.proofs.Common.{get_or}

-- the flags after so many sectors from `first` on were written
abbrev pub marked : ℕ → ℕ → List Bool → List Bool
marked first count in_doubt = take first in_doubt ++ replicate count true ++ drop (first + count) in_doubt

-- no sector is in doubt
abbrev pub NoneInDoubt : List Bool → Type 0
NoneInDoubt in_doubt = (k : ℕ) → get_or in_doubt k false ≡ false
