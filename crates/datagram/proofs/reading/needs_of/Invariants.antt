use Rattle.std.proofs.Common.{◌≡◌, ◌-◌}
use Rattle.datagram.specs.Reading.{needs_at}
use Rattle.datagram.proofs.Loop.{behind}
use Rattle.datagram.proofs.reading.needs_of.Given as goal

abbrev pub invariant-loop : goal.invariant-loop
invariant-loop l = behind l.needs (needs_at (l.count - l.counter) l.rest) ≡ needs_at l.count l.bytes
