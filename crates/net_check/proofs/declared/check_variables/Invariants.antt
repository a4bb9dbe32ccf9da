use Rattle.std.proofs.Common.{◌≤◌, take}
use Rattle.net_check.specs.Resolution.{AllDifferent, variable_names}
use Rattle.net_check.proofs.declared.check_variables.Given as goal
use Rattle.kahn_net.specs.declared.limits.TheConstants.{MAX_VARIABLES}

abbrev pub invariant-loop-i : goal.invariant-loop-i
invariant-loop-i l =
    record { few : l.i ≤ MAX_VARIABLES; different : AllDifferent (variable_names (take l.i l.variables)) }
