use Rattle.std.proofs.Common.{◌<◌, ◌∙◌, length, length-set, refl, subst, sym, arith}
use Rattle.std.proofs.lemmas.List.Elements.{All-get_or, All-nil}
use Rattle.wire.specs.RoomFor.{FindsRoom}
use Rattle.wire.specs.Traffic.{AreNodes}
use Rattle.wire.proofs.Ready.{more_then, same_room, set_room}
use Rattle.wire.proofs.Roomy.{room_more}
use Rattle.wire.proofs.Staged.{reserved_next}
use Rattle.std.proofs.lemmas.Grind.{elements}
use Rattle.wire.proofs.direct.make_room_for.Goals as goal

pub returns-in_err-reserve-clause-same : goal.returns-in_err-reserve-clause-same
returns-in_err-reserve-clause-same c =
    let l = c.loop-sending in
    let s = c.sending-item.result in
    let here : l.sending-index < length c.args.packets.now = omega (arith, c.loop-sending-test.true) in
    let node : AreNodes s = subst AreNodes (sym c.sending-item.is)
    (All-get_or AreNodes c.args.packets.now l.sending-index s here c.requires.nodes) in
    let within : s.to < length l.queues = omega (arith, node.1, c.requires.there, l.invariant.1) in
    reserved_next l.queues s.to c.index-queues-sending.result c.reserve.new.self c.reserve.new.self.room _ within
    c.reserve.ensures.same l.invariant.0

pub returns-in_err-reserve-clause-more : goal.returns-in_err-reserve-clause-more
returns-in_err-reserve-clause-more c =
    let l = c.loop-sending in
    let s = c.sending-item.result in
    let here : l.sending-index < length c.args.packets.now = omega (arith, c.loop-sending-test.true) in
    let node : AreNodes s = subst AreNodes (sym c.sending-item.is)
    (All-get_or AreNodes c.args.packets.now l.sending-index s here c.requires.nodes) in
    let within : s.to < length l.queues = omega (arith, node.1, c.requires.there, l.invariant.1) in
    more_then c.args.queues.now l.queues _ l.invariant.3
    (set_room l.queues s.to c.index-queues-sending.result c.reserve.new.self within c.reserve.ensures.more)

pub loop-sending-init : goal.loop-sending-init
loop-sending-init c =
    (refl, refl, All-nil (FindsRoom c.args.queues.now (length c.args.packets.now)), same_room c.args.queues.now)

pub loop-sending-preserved : goal.loop-sending-preserved
loop-sending-preserved c =
    let l = c.loop-sending in
    let s = c.sending-item.result in
    let here : l.sending-index < length c.args.packets.now = omega (arith, c.loop-sending-test.true) in
    let node : AreNodes s = subst AreNodes (sym c.sending-item.is)
    (All-get_or AreNodes c.args.packets.now l.sending-index s here c.requires.nodes) in
    let within : s.to < length l.queues = omega (arith, node.1, c.requires.there, l.invariant.1) in (
      reserved_next l.queues s.to c.index-queues-sending.result c.reserve.new.self c.reserve.new.self.room _ within
          c.reserve.ensures.same l.invariant.0,
      length-set l.queues s.to c.reserve.new.self ∙ l.invariant.1,
      room_more l.queues c.args.packets.now l.sending-index c.index-queues-sending.result c.reserve.new.self s within
          here c.sending-item.is c.reserve.ensures.more c.in_ok-reserve.ensures.ok l.invariant.2,
      more_then c.args.queues.now l.queues _ l.invariant.3
          (set_room l.queues s.to c.index-queues-sending.result c.reserve.new.self within c.reserve.ensures.more),
    )

pub returns-in_err-reserve-clause-len : goal.returns-in_err-reserve-clause-len
returns-in_err-reserve-clause-len c = grind (arith, elements)

pub returns-clause-room : goal.returns-clause-room
returns-clause-room c = grind (arith, elements)
