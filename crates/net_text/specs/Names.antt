-- Names without the memory that they lie in.
use Rattle.std.specs.Prelude.{ℕ, List}

-- a name's bytes, and the line on which it stands
pub record NameTree : Type 0 where
  pub text : List ℕ
  pub line : ℕ
