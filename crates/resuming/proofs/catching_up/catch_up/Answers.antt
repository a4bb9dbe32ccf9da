use Rattle.std.proofs.Common.{List, ℕ, sym, ap, subst, ◌∙◌}
use Rattle.protocol.specs.Node.Common.{Network}
use Rattle.protocol.specs.World.Common.{output_channels}
use Rattle.rerun.specs.Whole.{inputs_in, net_in, table_in}
use Rattle.resuming.proofs.Following.{at_same, channels_seen, gone_twice, limits_twice}
use Rattle.resuming.proofs.catching_up.catch_up.Goals as goal
use Rattle.resuming.specs.CatchingUp.{failures_by, HaveTakenAll, IsBehindBy, StoppedSince}
use Rattle.station.specs.OutputView.{outputs_view}

pub go_round-requires-clause-listed : goal.go_round-requires-clause-listed
go_round-requires-clause-listed g c =
    c.loop-round.invariant.gone_on.channels
    ∙ (channels_seen g.O.Outlet.taken c.args.outputs.items
    ∙ (c.requires.listed
    ∙ ap (λ (net : Network). output_channels 0 net.channels) (sym c.loop-round.invariant.net)))

pub go_round-requires-clause-taken : goal.go_round-requires-clause-taken
go_round-requires-clause-taken g c =
    let old = c.args.rerun in
    let now = c.loop-round.rerun in
    let outputs = outputs_view g.O.Outlet.taken c.loop-round.outputs.items in
    let so_far = c.loop-round.invariant in
    at_same (λ net inputs. HaveTakenAll net inputs (table_in now) outputs) (net_in old) (net_in now) (inputs_in old)
    (inputs_in now) so_far.net so_far.inputs so_far.taken

pub returns-in-Ok-Some-clause-caught_up : goal.returns-in-Ok-Some-clause-caught_up
returns-in-Ok-Some-clause-caught_up g c =
    let old = c.args.rerun in
    let now = c.loop-round.rerun in
    let new = c.go_round.new.rerun in
    let limits = c.args.limits.now in
    let before = outputs_view g.O.Outlet.taken c.args.outputs.items in
    let between = outputs_view g.O.Outlet.taken c.loop-round.outputs.items in
    let after = outputs_view g.O.Outlet.taken c.go_round.new.outputs.items in
    let so_far = c.loop-round.invariant in
    let made = c.in-Ok-Some.ensures in
    record {
      taken = at_same (λ net inputs. HaveTakenAll net inputs (table_in new) after) (net_in now) (net_in old)
          (inputs_in now) (inputs_in old) (sym so_far.net) (sym so_far.inputs) made.taken;
      gone_on = gone_twice before between after so_far.gone_on made.gone_on;
      within = limits_twice (net_in old) (net_in now) limits (table_in old) (table_in now) (table_in new) so_far.net
          so_far.within made.within;
      since = at_same (λ net inputs. StoppedSince net inputs limits (table_in new) c.in-Ok-Some.stopped) (net_in now)
          (net_in old) (inputs_in now) (inputs_in old) (sym so_far.net) (sym so_far.inputs)
          (rw c.in-Ok-Some.field-0-is at made.since);
    }

pub returns-in-Err-clause-behind : goal.returns-in-Err-clause-behind
returns-in-Err-clause-behind g c =
    gone_twice (outputs_view g.O.Outlet.taken c.args.outputs.items)
    (outputs_view g.O.Outlet.taken c.loop-round.outputs.items)
    (outputs_view g.O.Outlet.taken c.go_round.new.outputs.items) c.loop-round.invariant.gone_on
    c.in-Err.ensures.gone_on

pub returns-in-Err-clause-cause : goal.returns-in-Err-clause-cause
returns-in-Err-clause-cause g c =
    subst (λ (counts : List ℕ). IsBehindBy counts (failures_by g.O.Outlet.failures c.go_round.new.outputs.items) c.in-Err.fault)
    c.loop-round.invariant.unfailed c.in-Err.ensures.fault

pub loop-round-preserved : goal.loop-round-preserved
loop-round-preserved g c =
    let old = c.args.rerun in
    let now = c.loop-round.rerun in
    let new = c.go_round.new.rerun in
    let limits = c.args.limits.now in
    let before = outputs_view g.O.Outlet.taken c.args.outputs.items in
    let between = outputs_view g.O.Outlet.taken c.loop-round.outputs.items in
    let after = outputs_view g.O.Outlet.taken c.go_round.new.outputs.items in
    let so_far = c.loop-round.invariant in
    let made = c.in-Ok-None.ensures in
    record {
      taken = at_same (λ net inputs. HaveTakenAll net inputs (table_in new) after) (net_in now) (net_in old)
          (inputs_in now) (inputs_in old) (sym so_far.net) (sym so_far.inputs) made.taken;
      gone_on = gone_twice before between after so_far.gone_on made.gone_on;
      within = limits_twice (net_in old) (net_in now) limits (table_in old) (table_in now) (table_in new) so_far.net
          so_far.within made.within;
      net = made.net ∙ so_far.net;
      inputs = made.inputs ∙ so_far.inputs;
      unfailed = made.unfailed ∙ so_far.unfailed;
    }
