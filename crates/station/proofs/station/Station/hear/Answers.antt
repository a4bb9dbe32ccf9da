use Rattle.std.proofs.Common.{Ok, Result, ap, map, refl, subst, sym, ◌∙◌}
use Rattle.std.specs.Prelude.{All}
use Rattle.std.specs.declared.alloc.AllocError.{AllocError}
use Rattle.protocol.specs.Node.Common.{network_of, cell_in, IsPacket, hear_prospect, Prospect, next_record}
use Rattle.protocol.specs.Node.Common.{packets_by, Net, Store, node_count}
use Rattle.node.specs.NodeOf.{view_of}
use Rattle.node.specs.Planned.{prospect_view}
use Rattle.node.specs.Putting.{IsPutEvent}
use Rattle.node.specs.StoredView.{LeavesNext}
use Rattle.protocol.specs.World.Common.{sending_of, all_sent, traffic_of}
use Rattle.protocol.specs.declared.outcome.Outcome.{Outcome}
use Rattle.protocol.specs.declared.outcome.Outcome.TheVariants as outcome
use Rattle.station.specs.Coming.{taken_by}
use Rattle.station.specs.StationView.{station_view}
use Rattle.station.proofs.Cells.{left_alone, through, untouched}
use Rattle.station.proofs.Planned.{heard_silently, seen_moved}
use Rattle.station.proofs.Ready.{heard_sent, still_there}
use Rattle.station.specs.Lending.{net_lent}
use Rattle.protocol.specs.Node.Delivering.{IsHeard}
use Rattle.std.proofs.Common.{arith}
use Rattle.std.proofs.lemmas.Grind.{elements}
use Rattle.station.proofs.station.Station.hear.Goals as goal

pub plan_packet-requires : goal.plan_packet-requires
plan_packet-requires g c =
    let right = subst (λ (n : Net). IsHeard (network_of n.program) c.args.self.now.node.number c.args.packet.now)
    (sym c.deref.ensures) c.requires.right in
    record {
      up = c.requires.up;
      like = c.requires.like;
      bounded = c.requires.bounded;
      right = right.names;
      allowed = right.allowed;
      here = right.here;
      listed = c.requires.listed ∙ ap (λ (n : Net). node_count (network_of n.program)) (sym c.deref.ensures);
    }

pub ready_for-requires : goal.ready_for-requires
ready_for-requires g c = λ came.
    let was = c.args.self.now in
    let packet = c.args.packet.now in
    let told = c.in_ok-prospect.ensures.view
    ∙ ap (λ (n : Net). hear_prospect (network_of n.program) was.node.number packet.from packet.body (view_of was.node))
    c.deref.ensures in
    subst (λ (p : Prospect). All IsPacket (packets_by p came)) (sym told)
    (c.requires.allowed came)

pub take_by-requires : goal.take_by-requires
take_by-requires g c = record {
  node = c.requires.to;
  there = still_there c.args.wire.now c.ready_for.new.wire c.args.to c.args.place c.ready_for.ensures.same
      c.requires.there;
  made = c.in_ok-ready.ensures.made.room;
  declined = c.in_ok-ready.ensures.declined.room;
}

-- one that says something of one channel

pub hear_of_channel-requires-clause-allowed : goal.hear_of_channel-requires-clause-allowed
hear_of_channel-requires-clause-allowed g c = c.requires.right.allowed

pub returns-in_err-hear_of_channel-clause-leaves : goal.returns-in_err-hear_of_channel-clause-leaves
returns-in_err-hear_of_channel-clause-leaves g c =
    let was = c.args.self.now in
    left_alone g.C.StableCell g.C.SlotCell g.met.C.SlotCell.only_now_whole was.node.store
    c.hear_of_channel.new.self.store
    c.hear_of_channel.ensures.same.0 was.node.kept.settled _

pub returns-then-is_of_channel-clause-leaves : goal.returns-then-is_of_channel-clause-leaves
returns-then-is_of_channel-clause-leaves g c =
    let was = c.args.self.now in
    left_alone g.C.StableCell g.C.SlotCell g.met.C.SlotCell.only_now_whole was.node.store
    c.hear_of_channel.new.self.store
    c.hear_of_channel.ensures.same.0 was.node.kept.settled _

pub returns-then-is_of_channel-clause-come : goal.returns-then-is_of_channel-clause-come
returns-then-is_of_channel-clause-come g c =
    let was = c.args.self.now in
    let seen = station_view {cell = g.C.StableCell} {slots = g.C.SlotCell} g.O.Outlet.taken g.O.Outlet.failures was in
    heard_silently _ c.args.lent.now.round _ seen _ _ c.args.to c.args.place (traffic_of c.args.wire.now)
    (traffic_of c.lose.new.self)
    (c.in_ok-hear_of_channel.ensures.heard (net_lent c.args.lent.now) was.node.number c.args.packet.now.from) refl
    (c.requires.allowed outcome.Made)
    (ap (λ (s : Store g.row.C.Denot g.C.SlotCell g.C.StableCell). g.C.StableCell.failure_count (cell_in s))
    c.hear_of_channel.ensures.same.0) (seen_moved seen _ _ _ _ _ c.hear_of_channel.ensures.same.1 refl)
    c.lose.ensures.traffic

pub returns-in_err-prospect-clause-leaves : goal.returns-in_err-prospect-clause-leaves
returns-in_err-prospect-clause-leaves g c =
    let was = c.args.self.now in
    untouched g.C.StableCell g.C.SlotCell g.met.C.SlotCell.only_now_whole was.node.store was.node.kept.settled _

pub returns-in_err-ready-clause-leaves : goal.returns-in_err-ready-clause-leaves
returns-in_err-ready-clause-leaves g c =
    let was = c.args.self.now in
    untouched g.C.StableCell g.C.SlotCell g.met.C.SlotCell.only_now_whole was.node.store was.node.kept.settled _

pub returns-in_err-outcome-clause-leaves : goal.returns-in_err-outcome-clause-leaves
returns-in_err-outcome-clause-leaves g c =
    let was = c.args.self.now in
    let packet = c.args.packet.now in
    let told = c.in_ok-prospect.ensures.view
    ∙ ap (λ (n : Net). hear_prospect (network_of n.program) was.node.number packet.from packet.body (view_of was.node))
    c.deref.ensures in
    through g.C.StableCell g.C.SlotCell was.node.store c.carry_out.new.self.store was.node.kept.settled
    _ (subst (λ (p : Prospect). LeavesNext (next_record p (view_of was.node).kept) was.node.store
    c.carry_out.new.self.store) told c.carry_out.ensures.event.any_moment)

pub returns-clause-leaves : goal.returns-clause-leaves
returns-clause-leaves g c =
    let was = c.args.self.now in
    let packet = c.args.packet.now in
    let told = c.in_ok-prospect.ensures.view
    ∙ ap (λ (n : Net). hear_prospect (network_of n.program) was.node.number packet.from packet.body (view_of was.node))
    c.deref.ensures in
    through g.C.StableCell g.C.SlotCell was.node.store c.carry_out.new.self.store was.node.kept.settled
    _ (subst (λ (p : Prospect). LeavesNext (next_record p (view_of was.node).kept) was.node.store
    c.carry_out.new.self.store) told c.carry_out.ensures.event.any_moment)

pub returns-clause-come : goal.returns-clause-come
returns-clause-come g c =
    let was = c.args.self.now in
    let now = c.carry_out.new.self in
    let cell = g.C.StableCell in
    let seen = station_view g.O.Outlet.taken g.O.Outlet.failures was in
    let came = c.in_ok-outcome.outcome in
    let answer : Result Outcome AllocError = Ok came in
    let packet = c.args.packet.now in
    let told = c.in_ok-prospect.ensures.view
    ∙ ap (λ (n : Net). hear_prospect (network_of n.program) was.node.number packet.from packet.body (view_of was.node))
    c.deref.ensures in
    let ready = c.in_ok-ready.ensures in
    let planned = prospect_view (view_of was.node) c.in_ok-prospect.prospect in
    let prospect =
    hear_prospect (net_lent c.args.lent.now) was.node.number packet.from packet.body (view_of was.node) in
    let event : IsPutEvent prospect c.args.lent.now.round (view_of was.node) (view_of now) was.node.store now.store
    answer =
    subst (λ (p : Prospect). IsPutEvent p c.args.lent.now.round (view_of was.node) (view_of now) was.node.store
    now.store answer)
    told c.in_ok-outcome.ensures.event in
    record {
      call = cell.failed_call (cell_in now.store);
      came = came;
      step = event.step;
      put = event.put;
      answers = c.answer_by.ensures;
      allowed = c.requires.allowed came;
      same = seen_moved seen _ _ _ _ _ c.carry_out.ensures.same_number refl;
      traffic = heard_sent c.args.lent.now.round planned came c.args.to c.args.place (traffic_of c.ready_for.new.wire)
          (traffic_of c.args.wire.now) (traffic_of c.take_by.new.wire) c.ready_for.ensures.same
          (c.take_by.ensures c.args.lent.now.round _ _ ready.made.nodes ready.declined.nodes ready.made.ready
          ready.declined.ready)
          ∙ ap (λ (p : Prospect). all_sent c.args.lent.now.round (map sending_of (packets_by p came))
          (taken_by came (traffic_of c.args.wire.now) c.args.to c.args.place)) told;
    }

pub lose-requires-clause-there : goal.lose-requires-clause-there
lose-requires-clause-there g c = grind (arith, elements)

pub returns-then-is_of_channel-clause-armed : goal.returns-then-is_of_channel-clause-armed
returns-then-is_of_channel-clause-armed g c = grind (arith, elements)

pub returns-clause-unchanged : goal.returns-clause-unchanged
returns-clause-unchanged g c = grind (arith, elements)

pub returns-clause-armed : goal.returns-clause-armed
returns-clause-armed g c = grind (arith, elements)
