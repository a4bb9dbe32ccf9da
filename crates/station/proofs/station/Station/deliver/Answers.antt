use Rattle.std.proofs.Common.{◌<◌, ◌∙◌, ap, refl, sym, subst, List, length, Result, Ok, Err}
use Rattle.std.specs.Prelude.{IfOk}
use Rattle.std.specs.declared.alloc.AllocError.{AllocError}
use Rattle.protocol.specs.Node.Common.{fits_in, cell_in, Net, network_of, packet_for}
use Rattle.protocol.specs.World.Common.{Flight, traffic_of}
use Rattle.station.specs.ReplyView.{reply_view}
use Rattle.station.specs.ReplyView.{Reply}
use Rattle.station.proofs.Ready.{flying_seen}
use Rattle.station.specs.StationView.{station_view}
use Rattle.station.proofs.Cells.{untouched}
use Rattle.station.proofs.Planned.{came_heard}
use Rattle.station.specs.Lending.{net_lent}
use Rattle.std.proofs.Common.{arith}
use Rattle.std.proofs.lemmas.Grind.{elements}
use Rattle.station.proofs.station.Station.deliver.Goals as goal

pub returns-in_default-clause-leaves : goal.returns-in_default-clause-leaves
returns-in_default-clause-leaves g c =
    let was = c.args.self.now in
    untouched g.C.StableCell g.C.SlotCell g.met.C.SlotCell.only_now_whole was.node.store was.node.kept.settled _

pub returns-then-is_down-clause-leaves : goal.returns-then-is_down-clause-leaves
returns-then-is_down-clause-leaves g c =
    let was = c.args.self.now in
    untouched g.C.StableCell g.C.SlotCell g.met.C.SlotCell.only_now_whole was.node.store was.node.kept.settled _

pub returns-in_err-packet-clause-leaves : goal.returns-in_err-packet-clause-leaves
returns-in_err-packet-clause-leaves g c =
    let was = c.args.self.now in
    untouched g.C.StableCell g.C.SlotCell g.met.C.SlotCell.only_now_whole was.node.store was.node.kept.settled _

pub returns-in-None-clause-leaves : goal.returns-in-None-clause-leaves
returns-in-None-clause-leaves g c =
    let was = c.args.self.now in
    untouched g.C.StableCell g.C.SlotCell g.met.C.SlotCell.only_now_whole was.node.store was.node.kept.settled _

pub hear-requires-clause-there : goal.hear-requires-clause-there
hear-requires-clause-there g c =
    subst (λ (flights : List Flight). c.args.place < length flights)
    (sym (flying_seen c.args.wire.now c.args.to)) (c.in-Some.ensures.below refl)

pub hear-requires-clause-right : goal.hear-requires-clause-right
hear-requires-clause-right g c =
    let spelled = ap (λ (n : Net). packet_for (network_of n.program) c.args.self.now.node.number c.in-Some.bytes.now)
    (sym c.deref.ensures) ∙ (sym c.in_ok-packet.ensures ∙ c.in-Some-2.is) in
    c.requires.right c.in-Some.bytes.now c.in-Some-2.packet (sym c.in-Some.ensures.bytes) spelled

-- what holds of each reply that an event may answer
reply_by : {P Q : Reply → Type 0} (result : Result Reply AllocError) → ((r : Reply) → P r → Q r) → IfOk result P → IfOk result Q
reply_by (Ok r) by holds = by r holds
reply_by (Err e) by holds = holds

pub returns-in-Some-2-clause-come : goal.returns-in-Some-2-clause-come
returns-in-Some-2-clause-come g c =
    let was = c.args.self.now in
    let spelled = sym c.in-Some-2.is ∙ (c.in_ok-packet.ensures
    ∙ ap (λ (n : Net). packet_for (network_of n.program) was.node.number c.in-Some.bytes.now) c.deref.ensures) in
    let up = sym c.is_down.ensures ∙ c.if-is_down.false in
    reply_by c.hear.result
    (λ r heard. came_heard (fits_in (g.C.SlotCell.slot_capacity (cell_in was.node.store))) c.args.lent.now.round
    (net_lent c.args.lent.now) c.args.to c.args.place
    (station_view g.O.Outlet.taken g.O.Outlet.failures was)
    (station_view g.O.Outlet.taken g.O.Outlet.failures c.hear.new.self)
    (reply_view r) (traffic_of c.args.wire.now) (traffic_of c.hear.new.wire)
    _ c.in-Some.bytes.now c.in-Some-2.packet c.in-Some.ensures.bytes spelled up heard)
    c.hear.ensures.come

pub returns-then-is_down-clause-come : goal.returns-then-is_down-clause-come
returns-then-is_down-clause-come g c = grind (arith, elements)

pub returns-in_default-clause-come : goal.returns-in_default-clause-come
returns-in_default-clause-come g c = grind (arith, elements)

pub returns-in-Some-2-clause-leaves : goal.returns-in-Some-2-clause-leaves
returns-in-Some-2-clause-leaves g c = grind (arith, elements)

pub returns-then-is_down-clause-armed : goal.returns-then-is_down-clause-armed
returns-then-is_down-clause-armed g c = grind (arith, elements)

pub returns-in-None-clause-come : goal.returns-in-None-clause-come
returns-in-None-clause-come g c = grind (arith, elements)

pub returns-in-None-clause-armed : goal.returns-in-None-clause-armed
returns-in-None-clause-armed g c = grind (arith, elements)

pub hear-requires-clause-allowed : goal.hear-requires-clause-allowed
hear-requires-clause-allowed g c = grind (arith, elements)

pub lose-requires-clause-there : goal.lose-requires-clause-there
lose-requires-clause-there g c = grind (arith, elements)
