use Rattle.std.proofs.Common.{◌≡◌, replicate}
use Rattle.wire.specs.Traffic.{queues_traffic, empty_queue}
use Rattle.wire.proofs.wire.empty_queues.Given as goal

abbrev pub invariant-loop : goal.invariant-loop
invariant-loop l = queues_traffic l.queues.items ≡ replicate l.counter empty_queue
