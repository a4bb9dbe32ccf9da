use Rattle.std.proofs.Common.{◌≡◌}
use Rattle.rerun.specs.Tables.{KeepsLimits}
use Rattle.rerun.specs.Whole.{inputs_in, net_in, table_in}
use Rattle.resuming.proofs.catching_up.catch_up.Given as goal
use Rattle.resuming.specs.CatchingUp.{failures_by, HaveGoneOn, HaveTakenAll}
use Rattle.station.specs.OutputView.{outputs_view}

-- the outputs have taken all so far, and the limits were kept
abbrev pub invariant-loop-round : goal.invariant-loop-round
invariant-loop-round g l = record {
  taken : HaveTakenAll (net_in l.fn.rerun) (inputs_in l.fn.rerun) (table_in l.rerun)
      (outputs_view g.O.Outlet.taken l.outputs.items);
  gone_on : HaveGoneOn (outputs_view g.O.Outlet.taken l.fn.outputs.items)
      (outputs_view g.O.Outlet.taken l.outputs.items);
  within : KeepsLimits (net_in l.fn.rerun) l.limits (table_in l.fn.rerun) (table_in l.rerun);
  net : net_in l.rerun ≡ net_in l.fn.rerun;
  inputs : inputs_in l.rerun ≡ inputs_in l.fn.rerun;
  unfailed : failures_by g.O.Outlet.failures l.outputs.items ≡ failures_by g.O.Outlet.failures l.fn.outputs.items;
}
