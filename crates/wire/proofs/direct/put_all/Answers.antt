use Rattle.std.proofs.Common.{List, [], ◌∷◌, length, sym, ap, ◌∙◌, arith}
use Rattle.std.specs.Vec.Iter.{into_iter_items}
use Rattle.std.proofs.lemmas.List.Elements.{All-head, All-rest, All-same}
use Rattle.wire.specs.declared.sending.Sending.{Sending}
use Rattle.wire.specs.RoomFor.{FindsRoom}
use Rattle.wire.specs.Traffic.{AreNodes, all_sent}
use Rattle.wire.specs.Staging.{ruled}
use Rattle.wire.proofs.Roomy.{room_after}
use Rattle.wire.proofs.direct.put_all.Goals as goal

pub put-requires-clause-room : goal.put-requires-clause-room
put-requires-clause-room c =
    let whole = into_iter_items c.loop-sending.sending-iterator in
    let more = into_iter_items c.next.new.self in
    let is = (c.in-Some.ensures.steps).0 in
    let has : FindsRoom c.loop-sending.queues (length whole) c.in-Some.sending =
    All-head (FindsRoom c.loop-sending.queues (length whole)) c.in-Some.sending more
    (All-same (FindsRoom c.loop-sending.queues (length whole)) (c.in-Some.sending ∷ more) whole (sym is)
    c.loop-sending.invariant.2) in
    let many = ap (length {A = Sending}) is in
    omega (arith, has, many)

pub loop-sending-preserved : goal.loop-sending-preserved
loop-sending-preserved c =
    let whole = into_iter_items c.loop-sending.sending-iterator in
    let more = into_iter_items c.next.new.self in
    let i = c.loop-sending.invariant in
    let is = (c.in-Some.ensures.steps).0 in (
      c.put.ensures.len ∙ i.0,
      All-rest AreNodes c.in-Some.sending more whole is i.1,
      room_after c.loop-sending.queues c.put.new.queues c.in-Some.sending whole more is c.put.ensures.room i.2,
      ap (all_sent c.args.round more) c.put.ensures.sent
          ∙ (ap (λ (sendings : List Sending). all_sent c.args.round sendings (ruled [] c.loop-sending.queues)) (sym is)
          ∙ i.3),
    )
