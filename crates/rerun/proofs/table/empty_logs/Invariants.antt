use Rattle.std.proofs.Common.{◌≡◌, replicate}
use Rattle.rerun.specs.Tables.{no_log}
use Rattle.rerun.proofs.table.empty_logs.Given as goal

abbrev pub invariant-loop-number : goal.invariant-loop-number
invariant-loop-number l = l.logs.items ≡ replicate l.number no_log
