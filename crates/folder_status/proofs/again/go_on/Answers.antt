use Rattle.rerun.specs.Whole.{inputs_in, net_in, table_in}
use Rattle.resuming.specs.CatchingUp.{HaveTakenAll, StoppedSince}
use Rattle.station.specs.OutputView.{outputs_view}
use Rattle.folder_status.proofs.Judging.{as_taken}
use Rattle.folder_status.proofs.Running.{at_same, listed_still}
use Rattle.folder_status.proofs.again.go_on.Goals as goal

pub invariant_of-result : goal.invariant_of-result
invariant_of-result c =
    let old = c.args.rerun in
    let now = c.in-Ok.caught.rerun in
    let outputs = c.in-Ok.caught.outputs.items in
    let made = c.in-Ok.ensures.caught_up in
    record {
      listed = listed_still (net_in old) (net_in now) c.args.outputs.items outputs c.in-Ok.ensures.net made.gone_on c.requires.listed;
      taken = at_same (λ net inputs. HaveTakenAll net inputs (table_in now) (outputs_view as_taken outputs)) (net_in old) (net_in now)
          (inputs_in old) (inputs_in now) c.in-Ok.ensures.net c.in-Ok.ensures.inputs made.taken;
      since = ∣ (
        c.args.limits.now,
        at_same (λ net inputs. StoppedSince net inputs c.args.limits.now (table_in now) c.in-Ok.caught.stopped)
            (net_in old) (net_in now) (inputs_in old) (inputs_in now) c.in-Ok.ensures.net c.in-Ok.ensures.inputs made.since,
      ) ∣₁;
    }
