use Rattle.std.proofs.Common.{◌≡◌, ◌∙◌, Some, map, refl, sym, ap, arith}
use Rattle.protocol.specs.Node.Common.{Net, network_of}
use Rattle.protocol.specs.World.RoomNeeds.{needed_for}
use Rattle.station.specs.StationView.{station_view}
use Rattle.world.specs.WholeView.{world_of}
use Rattle.world.proofs.Walks.{need_below, seen_there}
use Rattle.world.proofs.world.World.needed_for.Goals as goal

pub overflow_cast-result : goal.overflow_cast-result
overflow_cast-result g c =
    let self = c.args.self.now in
    let world = world_of self in
    let view = station_view g.O.Outlet.taken g.O.Outlet.failures in
    let same =
    seen_there world.net (network_of c.deref.result.now.program) world.inputs world.inputs self.channel_rooms
    world.stations (map view c.deref-2.result.now) c.args.node (ap (λ (n : Net). network_of n.program) c.deref.ensures)
    refl (ap (map view) c.deref-2.ensures.value) in
    let is : needed_for world c.args.node ≡ Some c.in-Some.channel =
    sym (sym c.in-Some.is ∙ (c.first_need-need.ensures ∙ same)) in
    let below = need_below world c.args.node c.in-Some.channel self.sound.valid is in
    omega (arith, below)
