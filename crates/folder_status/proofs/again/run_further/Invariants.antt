use Rattle.std.proofs.Common.{◌≡◌, ◌≤◌}
use Rattle.rerun.specs.Whole.{inputs_in, net_in}
use Rattle.folder_status.specs.declared.limits.TheConstants.{MOST_MORE}
use Rattle.folder_status.proofs.again.run_further.Given as goal

-- they are of the same network on the same inputs
abbrev pub invariant-loop : goal.invariant-loop
invariant-loop l = record {
  more : l.more ≤ MOST_MORE;
  net : net_in l.again.rerun ≡ net_in l.fn.again.rerun;
  inputs : inputs_in l.again.rerun ≡ inputs_in l.fn.again.rerun;
}
