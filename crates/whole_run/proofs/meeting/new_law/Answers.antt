use Rattle.protocol.specs.Node.Common.{network_of}
use Rattle.world.specs.WholeView.{world_of}
use Rattle.whole_run.proofs.Beginning.{new_begins}
use Rattle.whole_run.proofs.meeting.new_law.Goals as goal

pub returns : goal.returns
returns g c net inputs versions disks outputs fits each listed unused made =
    new_begins g.O.Outlet.taken g.O.Outlet.failures g.D.Disk.failure_count (network_of net.value.program) inputs
    disks outputs (world_of c.args.world.now) c.args.world.now.sound each listed unused made.opening
