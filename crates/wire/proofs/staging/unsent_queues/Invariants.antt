use Rattle.std.proofs.Common.{◌≡◌, map, take}
use Rattle.wire.specs.Traffic.{queues_traffic}
use Rattle.wire.specs.Staging.{unsent}
use Rattle.wire.proofs.staging.unsent_queues.Given as goal

abbrev pub invariant-loop-queue : goal.invariant-loop-queue
invariant-loop-queue l = queues_traffic l.staged.items ≡ map unsent (queues_traffic (take l.queue-index l.queues))
