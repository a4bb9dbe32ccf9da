-- A decision, without pointers.
use Rattle.std.specs.Prelude.{ℕ, List}

-- a checkpoint's number, and the nodes that take part in it
pub record DecisionView : Type 0 where
  pub number : ℕ
  pub participants : List ℕ
