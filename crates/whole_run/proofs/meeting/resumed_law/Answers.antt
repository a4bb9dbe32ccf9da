use Rattle.rerun.specs.Whole.{inputs_in, net_in, table_in}
use Rattle.world.specs.WholeView.{world_of}
use Rattle.whole_run.proofs.Beginning.{resumed_begins}
use Rattle.whole_run.proofs.meeting.resumed_law.Goals as goal

pub returns : goal.returns
returns g c disks outputs listed agree resumed =
    let rerun = c.args.rerun.now in
    resumed_begins g.O.Outlet.taken (net_in rerun) (inputs_in rerun) (table_in rerun) outputs (world_of c.args.world.now)
    c.args.world.now.sound rerun.ordered rerun.reached listed agree resumed.opens
