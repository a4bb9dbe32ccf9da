-- What a header says, without pointers: a record but for its images.
use Rattle.std.specs.Prelude.{ℕ, List, Option}
use Rattle.record.specs.Common.{DecisionView}
use Rattle.ckpt_codec.specs.declared.header.Instance.{Instance}

pub record HeaderView : Type 0 where
  pub node : ℕ
  pub epoch : ℕ
  pub highest : List ℕ
  pub decisions : List DecisionView
  -- the slot of the permanent image
  pub slot : ℕ
  -- whose tentative image is in the other slot, if there is one there
  pub tentative : Option Instance
