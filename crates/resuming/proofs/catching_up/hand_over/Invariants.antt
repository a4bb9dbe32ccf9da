use Rattle.std.proofs.Common.{◌≡◌, length}
use Rattle.rerun.specs.Whole.{inputs_in, net_in, table_in}
use Rattle.resuming.proofs.Following.{AreTaking}
use Rattle.resuming.proofs.catching_up.hand_over.Given as goal
use Rattle.resuming.specs.CatchingUp.{failures_by}
use Rattle.station.specs.OutputView.{outputs_view}

-- the outputs before this place have taken what their logs have
abbrev pub invariant-loop-place : goal.invariant-loop-place
invariant-loop-place g l = record {
  long : l.place-end ≡ length l.outputs.items;
  so_far : AreTaking (net_in l.rerun) (inputs_in l.rerun) (table_in l.rerun) l.place
      (outputs_view g.O.Outlet.taken l.fn.outputs.items) (outputs_view g.O.Outlet.taken l.outputs.items) l.any;
  unfailed : failures_by g.O.Outlet.failures l.outputs.items ≡ failures_by g.O.Outlet.failures l.fn.outputs.items;
}
