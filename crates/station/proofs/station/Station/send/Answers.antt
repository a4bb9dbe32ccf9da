use Rattle.std.proofs.Common.{rules, ◌≡◌, ◌∙◌, ap, false, refl}
use Rattle.protocol.specs.Node.Common.{network_of, fits_in, cell_in, is_down, Net, turn_packets}
use Rattle.protocol.specs.World.Common.{traffic_of}
use Rattle.station.specs.StationView.{station_view}
use Rattle.station.proofs.Packets.{are_nodes}
use Rattle.station.proofs.Sends.{sends}
use Rattle.station.specs.Lending.{net_lent}
use Rattle.std.proofs.Common.{arith}
use Rattle.std.proofs.lemmas.Grind.{elements}
use Rattle.station.proofs.station.Station.send.Goals as goal

pub send_all-requires : goal.send_all-requires
send_all-requires g c =
    are_nodes c.as_slice.result.now c.in_ok-sendings.sendings.items c.in_ok-sendings.ensures.sendings
    c.in_ok-sendings.ensures.allowed

pub returns-clause-come : goal.returns-clause-come
returns-clause-come g c = λ k.
    let was = c.args.self.now in
    let seen = station_view {cell = g.C.StableCell} {slots = g.C.SlotCell} g.O.Outlet.taken g.O.Outlet.failures was in
    let up : is_down seen.node.mode ≡ false = search rules in
    let packets = c.in_ok-packets.packets.items in
    sends (fits_in (g.C.SlotCell.slot_capacity (cell_in was.node.store))) c.args.lent.now.round (net_lent c.args.lent.now)
    seen _ _ (traffic_of c.args.wire.now) (traffic_of c.send_all.new.self) packets up
    (c.in_ok-packets.ensures ∙ ap (λ (n : Net). turn_packets (network_of n.program) was.node.number seen.node.kept
    seen.node.mode) c.deref.ensures)
    (search rules) refl (search rules) (search rules) k

pub spell_all-requires : goal.spell_all-requires
spell_all-requires g c = grind (arith, elements)

pub returns-in_default-clause-come : goal.returns-in_default-clause-come
returns-in_default-clause-come g c = grind (arith, elements)

pub returns-clause-up : goal.returns-clause-up
returns-clause-up g c = grind (arith, elements)

pub returns-then-is_down-clause-come : goal.returns-then-is_down-clause-come
returns-then-is_down-clause-come g c = grind (arith, elements)
