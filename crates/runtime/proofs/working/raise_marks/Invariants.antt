use Rattle.std.proofs.Common.{◌≡◌, ◌<◌, ◌≤◌, ℕ, length}
use Rattle.std.specs.Sync.Mutex.{mutex_guard_value}
use Rattle.marks.specs.Known.{greatest}
use Rattle.marks.specs.Owners.{IsOutputOf}
use Rattle.marks.specs.Seats.{known, node_of, owners_of}
use Rattle.protocol.specs.World.Common.{released_of}
use Rattle.world.specs.WholeView.{world_of}
use Rattle.runtime.proofs.working.raise_marks.Given as goal

-- the marks of the outputs that were looked at tell what has left
abbrev pub invariant-loop-number : goal.invariant-loop-number
invariant-loop-number g l = record {
  node : node_of l.seat ≡ node_of l.fn.seat;
  marked : (output : ℕ) → output < l.number → IsOutputOf (owners_of l.marks) (node_of l.fn.seat) output
      → length (released_of output (world_of (mutex_guard_value l.entered.locked).log.armed.world).stations) ≤ greatest (known l.seat output);
}
