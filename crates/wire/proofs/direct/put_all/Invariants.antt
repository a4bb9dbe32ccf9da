use Rattle.std.proofs.Common.{◌≡◌, [], length, All}
use Rattle.std.specs.Vec.Iter.{into_iter_items}
use Rattle.wire.specs.RoomFor.{FindsRoom}
use Rattle.wire.specs.Traffic.{AreNodes, all_sent}
use Rattle.wire.specs.Staging.{ruled}
use Rattle.wire.proofs.direct.put_all.Given as goal

-- what is to come makes the whole of what was made
abbrev pub invariant-loop-sending : goal.invariant-loop-sending
invariant-loop-sending l =
    (length l.queues ≡ length l.fn.queues) × All AreNodes (into_iter_items l.sending-iterator)
    × All (FindsRoom l.queues (length (into_iter_items l.sending-iterator))) (into_iter_items l.sending-iterator)
    × (all_sent l.round (into_iter_items l.sending-iterator) (ruled [] l.queues)
    ≡ all_sent l.round l.fn.packets.items (ruled [] l.fn.queues))
