use Rattle.std.proofs.Common.{refl}
use Rattle.world.specs.WholeView.{world_of}
use Rattle.protocol.specs.Node.Common.{network_of}
use Rattle.whole_run.proofs.Premises.{stop_goes_on}
use Rattle.whole_run.proofs.meeting.stop_law.Goals as goal

pub returns : goal.returns
returns g c net inputs outputs moved listed same later opened =
    stop_goes_on g.O.Outlet.taken g.O.Outlet.failures (λ cell. refl) (world_of c.args.before.now)
    (world_of c.args.after.now) c.args.before.now.stations.items (network_of net.value.program) inputs outputs
    c.args.before.now.sound refl moved listed same later opened.opens
