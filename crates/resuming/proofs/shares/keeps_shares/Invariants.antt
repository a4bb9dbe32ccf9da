use Rattle.std.proofs.Common.{◌≡◌, ℕ, ◌<◌, ◌≤◌, length, Some}
use Rattle.std.specs.Prelude.{slice_get}
use Rattle.record.specs.Ends.{log_at}
use Rattle.record.specs.declared.image.SavedEnd.{SavedEnd}
use Rattle.retained.specs.LogState.{LogState}
use Rattle.resuming.proofs.shares.keeps_shares.Given as goal

-- those that were looked at have no more than that
abbrev pub invariant-loop-saved : goal.invariant-loop-saved
invariant-loop-saved l =
    (k : ℕ) (saved : SavedEnd) (log : LogState) → k < l.saved-index → slice_get l.image.ends k ≡ Some saved
    → log_at (Some (saved.end)) ≡ Some log → length log.items ≤ l.share
