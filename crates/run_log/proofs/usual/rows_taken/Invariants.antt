use Rattle.std.proofs.Common.{◌≡◌, ◌≤◌, [], drop, sum_by}
use Rattle.std.specs.List.{flat_map}
use Rattle.run_log.specs.Counts.{times_of}
use Rattle.run_log.specs.Lines.{usually}
use Rattle.run_log.proofs.usual.rows_taken.Given as goal

abbrev pub invariant-loop-taken : goal.invariant-loop-taken
invariant-loop-taken l = record {
  within : l.taken ≤ 5;
  none : flat_map usually (drop l.taken l.rows) ≡ [];
  no_times : sum_by times_of (drop l.taken l.rows) ≡ 0;
}

abbrev pub decreases-loop-taken : goal.decreases-loop-taken
decreases-loop-taken l = l.taken
