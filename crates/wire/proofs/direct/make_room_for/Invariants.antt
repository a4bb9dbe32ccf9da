use Rattle.std.proofs.Common.{◌≡◌, length, take, All}
use Rattle.std.specs.List.{AllZip}
use Rattle.wire.specs.RoomFor.{FindsRoom}
use Rattle.wire.specs.Staging.{HasNoLessRoom}
use Rattle.wire.specs.Traffic.{queues_traffic}
use Rattle.wire.proofs.direct.make_room_for.Given as goal

abbrev pub invariant-loop-sending : goal.invariant-loop-sending
invariant-loop-sending l =
    (queues_traffic l.queues ≡ queues_traffic l.fn.queues) × (length l.queues ≡ length l.fn.queues)
    × All (FindsRoom l.queues (length l.packets)) (take l.sending-index l.packets)
    × AllZip HasNoLessRoom l.fn.queues l.queues
