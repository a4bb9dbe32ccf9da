use Rattle.std.proofs.Common.{◌≡◌, ◌++◌, ◌≤◌, length, take, drop}
use Rattle.std.specs.List.{AllZip}
use Rattle.std.specs.Vec.Iter.{into_iter_items}
use Rattle.wire.specs.Traffic.{queues_traffic}
use Rattle.wire.specs.Staging.{all_joined, HasRoom}
use Rattle.wire.proofs.staging.join_all.Given as goal

abbrev pub invariant-loop-more : goal.invariant-loop-more
invariant-loop-more l =
    (queues_traffic (take l.place l.queues)
    ++ all_joined (queues_traffic (drop l.place l.queues)) (queues_traffic (into_iter_items l.more-iterator))
    ≡ all_joined (queues_traffic l.fn.queues) (queues_traffic l.fn.staged.items))
    × AllZip HasRoom (drop l.place l.queues) (into_iter_items l.more-iterator)
    × (length l.queues ≡ length l.fn.queues) × (l.place ≤ length l.queues)
