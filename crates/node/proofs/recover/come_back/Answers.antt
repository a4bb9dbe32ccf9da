use Rattle.std.proofs.Common.{sym, ◌∙◌}
use Rattle.protocol.specs.Node.Common.{network_of, cell_in, record_in}
use Rattle.ckpt_store.proofs.Room.{epoch_fits, record_fits}
use Rattle.node.proofs.Recoveries.{not_raised}
use Rattle.std.proofs.Common.{arith}
use Rattle.std.proofs.lemmas.Grind.{common_steps, elements}
use Rattle.node.proofs.recover.come_back.Goals as goal

pub returns-in-Err-clause-kept : goal.returns-in-Err-clause-kept
returns-in-Err-clause-kept g c =
    let C = g.C.StableCell in
    let S = g.C.SlotCell in
    let met = g.met.C.SlotCell in
    let old = c.args.store.now in
    (not_raised C S met.includes_now_whole met.whole_may_stay met.settled_whole
    (network_of c.args.net.now.program) c.args.number c.args.round old c.raise.new.store
    c.end_put.new.store c.args.state.now c.end_put.new.state c.requires
    (sym c.is_down.ensures ∙ c.if-not-is_down.false)
    (epoch_fits (S.slot_capacity (cell_in old)) (record_in old)
    (record_fits C S met.fits_slot met.whole_may_stay old)) c.in-Err.fault c.end_put.result
    c.in-Err.ensures c.end_put.ensures.answer c.end_put.ensures.stays c.end_put.ensures.failed).0

pub returns-in-Err-clause-event : goal.returns-in-Err-clause-event
returns-in-Err-clause-event g c =
    let C = g.C.StableCell in
    let S = g.C.SlotCell in
    let met = g.met.C.SlotCell in
    let old = c.args.store.now in
    (not_raised C S met.includes_now_whole met.whole_may_stay met.settled_whole
    (network_of c.args.net.now.program) c.args.number c.args.round old c.raise.new.store
    c.end_put.new.store c.args.state.now c.end_put.new.state c.requires
    (sym c.is_down.ensures ∙ c.if-not-is_down.false)
    (epoch_fits (S.slot_capacity (cell_in old)) (record_in old)
    (record_fits C S met.fits_slot met.whole_may_stay old)) c.in-Err.fault c.end_put.result
    c.in-Err.ensures c.end_put.ensures.answer c.end_put.ensures.stays c.end_put.ensures.failed).1

pub returns-in-Err-clause-held : goal.returns-in-Err-clause-held
returns-in-Err-clause-held g c =
    let C = g.C.StableCell in
    let S = g.C.SlotCell in
    let met = g.met.C.SlotCell in
    let old = c.args.store.now in
    (not_raised C S met.includes_now_whole met.whole_may_stay met.settled_whole
    (network_of c.args.net.now.program) c.args.number c.args.round old c.raise.new.store
    c.end_put.new.store c.args.state.now c.end_put.new.state c.requires
    (sym c.is_down.ensures ∙ c.if-not-is_down.false)
    (epoch_fits (S.slot_capacity (cell_in old)) (record_in old)
    (record_fits C S met.fits_slot met.whole_may_stay old)) c.in-Err.fault c.end_put.result
    c.in-Err.ensures c.end_put.ensures.answer c.end_put.ensures.stays c.end_put.ensures.failed).2

pub returns-in-Err-clause-unchanged : goal.returns-in-Err-clause-unchanged
returns-in-Err-clause-unchanged g c = grind (arith, elements)

pub returns-then-not-is_down-clause-event : goal.returns-then-not-is_down-clause-event
returns-then-not-is_down-clause-event g c = grind (arith, elements)

pub returns-in-Ok-clause-event : goal.returns-in-Ok-clause-event
returns-in-Ok-clause-event g c = grind (arith, common_steps)
