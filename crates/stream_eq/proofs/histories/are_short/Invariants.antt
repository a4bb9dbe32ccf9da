use Rattle.std.proofs.Common.{ℕ, ◌<◌, ◌≤◌, length}
use Rattle.kahn_net.specs.Common.{history_of}
use Rattle.kahn_net.specs.declared.limits.TheConstants.{MAX_HISTORY_ITEMS}
use Rattle.stream_eq.proofs.histories.are_short.Given as goal

abbrev pub invariant-loop-history : goal.invariant-loop-history
invariant-loop-history l = (c : ℕ) → c < l.history-index → length (history_of l.histories c) ≤ MAX_HISTORY_ITEMS
