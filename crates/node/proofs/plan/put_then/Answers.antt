use Rattle.std.proofs.Common.{List, refl, true}
use Rattle.ckpt_store.proofs.Room.{record_fits}
use Rattle.protocol.specs.Node.Common.{cell_in, record_in, Packet, with_kept, Plan, Planned}
use Rattle.node.specs.NodeView.{node_view}
use Rattle.node.specs.Planned.{cause_of, change_grows, changed}
use Rattle.node.specs.Then.{then_node}
use Rattle.node.proofs.Changes.{same_node, same_nodes}
use Rattle.node.proofs.Puts.{put_event, put_kept}
use Rattle.std.proofs.Common.{arith}
use Rattle.std.proofs.lemmas.Grind.{elements}
use Rattle.node.proofs.plan.put_then.Goals as goal

pub returns-clause-kept : goal.returns-clause-kept
returns-clause-kept g c =
    let C = g.C.StableCell in
    let S = g.C.SlotCell in
    let met = g.met.C.SlotCell in
    let old = record_in c.args.store.now in
    let change = c.args.change in
    put_kept C S met.includes_now_whole met.whole_may_stay met.settled_whole c.args.number c.args.round
    (C.failed_call c.end_put_then.new.store.cell) c.args.store.now c.put-put.new.store c.end_put_then.new.store
    c.args.state.now c.end_put_then.new.state c.put-put.result c.args.then c.requires.kept c.requires.can.up
    c.end_put_then.ensures.store c.end_put_then.ensures.done c.end_put_then.ensures.stays
    c.end_put_then.ensures.failed (cause_of change) (changed change) c.requires.can.fine c.put-put.ensures
    (same_nodes change old) (same_node change old)

pub returns-clause-event : goal.returns-clause-event
returns-clause-event g c = λ packets refused. (
    let C = g.C.StableCell in
    let S = g.C.SlotCell in
    let met = g.met.C.SlotCell in
    let old = record_in c.args.store.now in
    let was = node_view old c.args.state.now in
    let change = c.args.change in
    let plan : List Packet → List Packet → Plan = (λ packets refused. record {
      node = then_node c.args.then (with_kept (changed change old) was);
      puts = true;
      grows = change_grows change;
      packets = packets;
      refused = refused;
    }) in
    put_event C S met.includes_now_whole met.whole_may_stay met.settled_whole c.args.number c.args.round
    (C.failed_call c.end_put_then.new.store.cell) c.args.store.now c.put-put.new.store c.end_put_then.new.store
    c.args.state.now c.end_put_then.new.state c.put-put.result c.args.then c.requires.kept c.requires.can.up
    c.end_put_then.ensures.store c.end_put_then.ensures.done c.end_put_then.ensures.stays
    c.end_put_then.ensures.failed (cause_of change) (changed change) c.requires.can.fine c.put-put.ensures
    (plan packets refused) refl refl
    (λ short. c.requires.can.fits short (S.slot_capacity (cell_in c.args.store.now))
    (record_fits C S met.fits_slot met.whole_may_stay c.args.store.now))
    (Planned (plan packets refused)) refl c.end_put_then.result c.end_put_then.ensures.answer refl)

pub returns-clause-unchanged : goal.returns-clause-unchanged
returns-clause-unchanged g c = grind (arith, elements)
