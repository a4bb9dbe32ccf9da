-- What a node keeps, without pointers, so that two records are compared by ≡.
use Rattle.std.specs.Prelude.{ℕ, List, Option}
use Rattle.record.specs.DecisionView.{DecisionView}
use Rattle.record.specs.ImageView.{ImageView}
use Rattle.record.specs.declared.record.Tentative.{Tentative}

-- what outlives a crash of a node: its epoch, the highest checkpoint number that it has seen of each node, its
-- unsettled decisions, its permanent image, and a tentative one if it holds one
pub record RecordView : Type 0 where
  pub node : ℕ
  pub epoch : ℕ
  pub highest : List ℕ
  pub decisions : List DecisionView
  pub permanent : ImageView
  pub tentative : Option Tentative
