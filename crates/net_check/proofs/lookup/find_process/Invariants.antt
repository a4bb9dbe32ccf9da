use Rattle.std.proofs.Common.{ℕ, ◌<◌, map}
use Rattle.net_text.specs.Trees.{process_tree}
use Rattle.net_check.specs.Resolution.{Reads, process_names}
use Rattle.net_check.proofs.lookup.find_process.Given as goal

abbrev pub invariant-loop-i : goal.invariant-loop-i
invariant-loop-i l = (k : ℕ) → k < l.i → Reads (process_names (map process_tree l.processes)) k l.name.text → ⊥
