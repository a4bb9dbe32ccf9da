use Rattle.std.proofs.Common.{rules, ◌<◌, length, arith}
use Rattle.std.proofs.lemmas.List.{length-map}
use Rattle.world.specs.WholeView.{world_of}
use Rattle.station.specs.StationView.{station_view}
use Rattle.world.proofs.Places.{few_places}
use Rattle.std.proofs.lemmas.Grind.{elements}
use Rattle.world.proofs.world.World.packet.Goals as goal

pub packet_at-requires : goal.packet_at-requires
packet_at-requires g c =
    let was = c.args.self.now in
    let within : c.args.node < length was.stations.items = search rules in
    let view = station_view {cell = g.C.StableCell} {slots = g.C.SlotCell} g.O.Outlet.taken g.O.Outlet.failures in
    let many = length-map was.stations.items view in
    few_places (world_of was) c.args.node was.sound (omega (arith, within, many))

pub returns : goal.returns
returns g c = grind (arith, elements)
