use Rattle.std.proofs.Common.{ℕ, ◌<◌}
use Rattle.net_check.specs.Resolution.{Reads, variable_names}
use Rattle.net_check.proofs.lookup.find_variable.Given as goal

abbrev pub invariant-loop-i : goal.invariant-loop-i
invariant-loop-i l = (k : ℕ) → k < l.i → Reads (variable_names l.variables) k l.name.text → ⊥
