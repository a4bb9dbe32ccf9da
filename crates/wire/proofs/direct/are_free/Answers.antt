use Rattle.std.proofs.Common.{◌<◌, ◌≤◌, length, sym, subst, arith}
use Rattle.std.proofs.lemmas.List.Elements.{All-get_or, All-more}
use Rattle.wire.specs.Staging.{IsFree, ruled}
use Rattle.wire.specs.Traffic.{AreNodes}
use Rattle.wire.proofs.Free.{all_of, free_here}
use Rattle.wire.proofs.direct.are_free.Goals as goal

pub loop-sending-preserved : goal.loop-sending-preserved
loop-sending-preserved c =
    let l = c.loop-sending in
    let s = c.sending-item.result in
    let packets = c.args.packets.now in
    let free = IsFree (ruled c.args.rules.now c.args.queues.now) (length packets) in
    let here : l.sending-index < length packets = omega (arith, c.loop-sending-test.true) in
    let node : AreNodes s = subst AreNodes (sym c.sending-item.is)
    (All-get_or AreNodes packets l.sending-index s here c.requires.nodes) in
    let within : s.to < length c.args.queues.now = omega (arith, node.1, c.requires.there) in
    All-more free packets l.sending-index s here l.invariant
    (subst free c.sending-item.is
    (free_here c.args.queues.now c.args.rules.now (length packets) s c.index-queues-sending.result within
    c.index-queues-sending.is (c.is_free.ensures c.if-not-is_free.false)))

pub returns : goal.returns
returns c = λ told.
    let past : length c.args.packets.now ≤ c.loop-sending.sending-index = omega (arith, c.loop-sending-test.false) in
    all_of (IsFree (ruled c.args.rules.now c.args.queues.now) (length c.args.packets.now))
    c.args.packets.now c.loop-sending.sending-index past c.loop-sending.invariant
