use Rattle.std.proofs.Common.{◌≡◌, ◌++◌, replicate}
use Rattle.wire.specs.Queue.{flight}
use Rattle.wire.proofs.queue.put_copies.Given as goal

abbrev pub invariant-loop : goal.invariant-loop
invariant-loop l = l.flights.items ≡ l.fn.flights.items ++ replicate l.counter (flight l.fn.packet l.due)
