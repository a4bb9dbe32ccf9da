use Rattle.std.proofs.Common.{ℕ, ◌<◌}
use Rattle.net_check.specs.Resolution.{Reads}
use Rattle.cobaltmidge.proofs.network.find_name.Given as goal

abbrev pub invariant-loop-i : goal.invariant-loop-i
invariant-loop-i l = (k : ℕ) → k < l.i → Reads l.names k l.name → ⊥
