-- A checkpoint that several nodes take together, as the node that began it has it in memory while answers are missing.
use Rattle.std.specs.Prelude.{ℕ, List, Option}
use Rattle.recovery_line.specs.Nodes.{Answer}

-- a question to the node that puts on a channel, whether it keeps so many items for good, and how it was answered
pub record QuestionView : Type 0 where
  pub count : ℕ
  pub answer : Answer

-- What an initiator collects for its checkpoint: the number of the instance; at the place of each channel what was
-- asked of it; and the nodes that took part, in the order in which they first said so.
pub record LiveView : Type 0 where
  pub number : ℕ
  pub questions : List (Option QuestionView)
  pub takers : List ℕ
