use Rattle.std.proofs.Common.{◌≡◌, length}
use Rattle.net_check.specs.Claims.{AreOutside}
use Rattle.net_check.proofs.ends.Ports.outside.Given as goal

abbrev pub invariant-loop : goal.invariant-loop
invariant-loop l = record { count : length l.ports.items ≡ l.counter; outside : AreOutside l.ports.items }
