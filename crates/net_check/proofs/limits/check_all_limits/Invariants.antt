use Rattle.std.proofs.Common.{◌≡◌, ◌<◌, ℕ, map, slice_get, Some}
use Rattle.net_text.specs.Trees.{ProcessTree, process_tree}
use Rattle.net_check.specs.Ready.{IsFit}
use Rattle.net_check.proofs.limits.check_all_limits.Given as goal

abbrev pub invariant-loop-process : goal.invariant-loop-process
invariant-loop-process l =
    (p : ℕ) → p < l.process-index → (process : ProcessTree) → slice_get (map process_tree l.processes) p ≡ Some process
    → IsFit process
