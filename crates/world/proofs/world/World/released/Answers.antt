use Rattle.std.proofs.Common.{sym, subst}
use Rattle.protocol.specs.Node.Common.{network_of}
use Rattle.protocol.specs.World.Released.{IsPutAtHome, IsStreamOf}
use Rattle.protocol_laws.specs.World.ReleasedLaws.{released_is_put, released_is_right}
use Rattle.world.specs.WholeView.{world_of}
use Rattle.world.proofs.world.World.released.Goals as goal

pub returns-clause-prefix : goal.returns-clause-prefix
returns-clause-prefix g c =
    let world = c.args.self.now in
    subst (IsStreamOf (network_of world.net.value.program) world.inputs.came c.args.channel) (sym c.stream.ensures)
    (released_is_right (world_of world) world.sound c.args.channel)

pub returns-clause-covered : goal.returns-clause-covered
returns-clause-covered g c =
    let world = c.args.self.now in
    subst (IsPutAtHome (network_of world.net.value.program) (world_of world).stations c.args.channel)
    (sym c.stream.ensures)
    (released_is_put (world_of world) world.sound c.args.channel)
