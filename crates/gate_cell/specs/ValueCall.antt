-- What a call of the value is to who looks at what lies beside it.
use Rattle.std.specs.Prelude.{ℕ, List}

-- it changes nothing, it puts a value, or the device crashes
pub data ValueCall : Type 0 where
  Looks : ValueCall
  Puts : List ℕ → ValueCall
  Crashes : ValueCall
