use Rattle.std.proofs.Common.{◌≡◌}
use Rattle.rerun.specs.Whole.{inputs_in, net_in, table_in}
use Rattle.resuming.proofs.Following.{AreLettingGo}
use Rattle.resuming.proofs.catching_up.let_go_all.Given as goal
use Rattle.station.specs.OutputView.{outputs_view}

-- the logs of the outputs before this one have let go
abbrev pub invariant-loop-output : goal.invariant-loop-output
invariant-loop-output g l = record {
  so_far : AreLettingGo l.output-index (outputs_view g.O.Outlet.taken l.outputs) (table_in l.fn.rerun)
      (table_in l.rerun);
  net : net_in l.rerun ≡ net_in l.fn.rerun;
  inputs : inputs_in l.rerun ≡ inputs_in l.fn.rerun;
}
