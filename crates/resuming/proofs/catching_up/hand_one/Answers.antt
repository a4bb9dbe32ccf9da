use Rattle.std.proofs.Common.{◌≡◌, sym, ap, arith}
use Rattle.rerun.specs.Tables.{log_on, no_log}
use Rattle.rerun.specs.Whole.{inputs_in, net_in, table_in}
use Rattle.resuming.proofs.Following.{takes_all}
use Rattle.resuming.proofs.Lists.{index_at}
use Rattle.resuming.proofs.catching_up.hand_one.Goals as goal
use Rattle.retained.specs.LogState.{log_end}

pub returns-clause-all : goal.returns-clause-all
returns-clause-all g c =
    let rerun = c.args.rerun.now in
    let channel = c.args.output.now.channel in
    let log = c.in-Some.log.now in
    let logged = sym c.in-Some.ensures.log in
    let its : log_end (log_on (table_in rerun) channel) ≡ log_end log =
    ap log_end (index_at (table_in rerun).logs channel log no_log logged) in
    let few = c.requires.agrees.in_log.to_end in
    let reaches = c.in_ok-release.ensures.reaches in
    let end = c.end-end.ensures.value in
    takes_all (net_in rerun) (inputs_in rerun) (table_in rerun) rerun.net.value.valid rerun.fits c.in-Some.ensures.meant
    channel (g.O.Outlet.taken c.args.output.now.outlet) (g.O.Outlet.taken c.release.new.outlet) c.requires log logged
    (omega (arith, its, few, reaches, end)) c.in_ok-release.ensures.history
