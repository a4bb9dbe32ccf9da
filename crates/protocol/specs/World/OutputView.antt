-- Outputs without pointers: each one's channel, and the items that left there.
use Rattle.std.specs.Prelude.{ℕ, ℤ, List}

-- an output: its channel, and what has left there
pub record OutputView : Type 0 where
  pub channel : ℕ
  pub taken : List ℤ
