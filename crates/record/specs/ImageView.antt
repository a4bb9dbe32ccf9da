-- A node's image, without pointers.
use Rattle.std.specs.Prelude.{List}
use Rattle.record.specs.ProcessView.{SavedProcessView}
use Rattle.record.specs.declared.image.SavedEnd.{SavedEnd}

-- the state of a node: where each of its processes stands, and for each end of a channel how many items were
-- received, the log of what was put, or both
pub record ImageView : Type 0 where
  pub processes : List SavedProcessView
  pub ends : List SavedEnd
