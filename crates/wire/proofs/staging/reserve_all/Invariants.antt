use Rattle.std.proofs.Common.{◌≡◌, length, take}
use Rattle.std.specs.List.{AllZip}
use Rattle.wire.specs.Traffic.{queues_traffic}
use Rattle.wire.specs.Staging.{HasNoLessRoom, HasRoom}
use Rattle.wire.proofs.staging.reserve_all.Given as goal

abbrev pub invariant-loop-place : goal.invariant-loop-place
invariant-loop-place l =
    (queues_traffic l.queues ≡ queues_traffic l.fn.queues) × (length l.queues ≡ length l.fn.queues)
    × AllZip HasRoom (take l.place l.queues) (take l.place l.staged) × AllZip HasNoLessRoom l.fn.queues l.queues
