-- An event of a node that puts its record, with its store.
use Rattle.std.specs.Prelude.{◌≡◌, ℕ, Result, IfOk, OnErr}
use Rattle.gate_cell.specs.declared.cell.StableCell.{Ghosts as CellWords}
use Rattle.slot_cell.specs.declared.slot_cell.SlotCell.{Ghosts as SlotWords}
use Rattle.protocol.specs.Node.Common.{fits_in, cell_in, Store, restart_after, NodeView, Prospect, IsMade, IsPut}
use Rattle.protocol.specs.Node.Common.{next_record, room_for}
use Rattle.node.specs.StoredView.{LeavesDevice, LeavesNext}
use Rattle.protocol.specs.declared.outcome.Outcome.{Outcome}

-- A call of a node that may put its record comes out as its event's prospect says, at a node that was so and is so
-- now, in this round.
pub record IsPutEvent {C : Type 0} {words : CellWords C} {slots : SlotWords C} (prospect : Prospect) (round : ℕ) (was now : NodeView)
    (old new : Store C slots words) {E : Type 0} (result : Result Outcome E) : Type 0 where
  -- what came of it; a node whose device failed comes back after the rounds that were armed with the call that failed
  pub step : IfOk result
      (λ outcome. IsMade (restart_after was.armed (words.failed_call (cell_in new)) round) prospect was outcome now)
  -- want of memory changes nothing, and no device has failed then
  pub refused : OnErr result (now ≡ was)
  pub refused_failures : OnErr result (words.failure_count (cell_in new) ≡ words.failure_count (cell_in old))
  -- what the cell has to do with it
  pub put : IfOk result
      (IsPut (room_for (fits_in (slots.slot_capacity (cell_in old))) prospect) (words.failure_count (cell_in old))
      (words.failure_count (cell_in new)))
  -- a crash at any moment leaves what it might have left before, or the record that is put
  pub any_moment : LeavesNext (next_record prospect was.kept) old new
  -- what fits and what is armed stay, and no call that was counted is forgotten
  pub same_setup : LeavesDevice old new
