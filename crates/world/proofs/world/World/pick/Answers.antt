use Rattle.std.proofs.Common.{rules, ◌≡◌, ◌<◌, ◌≤◌, ◌∙◌, ℕ, length, map, ap, sym, arith}
use Rattle.std.proofs.lemmas.Grind.{elements}
use Rattle.std.proofs.lemmas.List.{length-map}
use Rattle.std.proofs.lemmas.Option.{slice_get_past}
use Rattle.protocol.specs.Node.Common.{network_of, Net}
use Rattle.protocol.specs.World.Choice.{choice_of, station_choice}
use Rattle.protocol.specs.World.Common.{traffic_of}
use Rattle.world.specs.WholeView.{world_of}
use Rattle.station.specs.StationView.{station_view}
use Rattle.world.proofs.Places.{number_few}
use Rattle.world.proofs.Views.{seen_at}
use Rattle.world.proofs.world.World.pick.Goals as goal

pub pick-requires : goal.pick-requires
pick-requires g c =
    let was = c.args.self.now in
    let view = station_view {cell = g.C.StableCell} {slots = g.C.SlotCell} g.O.Outlet.taken g.O.Outlet.failures in
    let within : c.args.node < length was.stations.items = grind (arith, elements) in
    number_few (world_of was) c.args.node (view c.in-Some.station.now) was.sound
    (seen_at view was.stations.items c.args.node c.in-Some.station.now within (grind (arith, elements)))

pub returns-in-Some : goal.returns-in-Some
returns-in-Some g c =
    let was = c.args.self.now in
    let view = station_view {cell = g.C.StableCell} {slots = g.C.SlotCell} g.O.Outlet.taken g.O.Outlet.failures in
    let world = world_of was in
    let within : c.args.node < length was.stations.items = grind (arith, elements) in
    let station = view c.in-Some.station.now in
    let there = seen_at view was.stations.items c.args.node c.in-Some.station.now within (grind (arith, elements)) in
    let many : c.len.result ≡ length was.stations.items = search rules in
    c.pick.ensures
    ∙ (ap (λ (net : Net). station_choice (network_of net.program) world.inputs was.channel_rooms (traffic_of was.wire)
    c.len.result was.round station) c.deref-in-Some.ensures
    ∙ (ap (λ (n : ℕ). station_choice world.net world.inputs was.channel_rooms (traffic_of was.wire) n was.round station)
    (many ∙ sym (length-map was.stations.items view))
    ∙ sym (ap (choice_of world c.args.node) there)))

pub returns-in-None : goal.returns-in-None
returns-in-None g c =
    let was = c.args.self.now in
    let view = station_view {cell = g.C.StableCell} {slots = g.C.SlotCell} g.O.Outlet.taken g.O.Outlet.failures in
    let past : length was.stations.items ≤ c.args.node = grind (arith, elements) in
    let many = length-map was.stations.items view in
    c.by_node.ensures
    ∙ sym (ap (choice_of (world_of was) c.args.node)
    (slice_get_past (map view was.stations.items) c.args.node (omega (arith, past, many))))
