use Rattle.std.proofs.Common.{◌≡◌, replicate}
use Rattle.std.specs.Prelude.{None}
use Rattle.stream_program.proofs.program.no_ports.Given as goal

-- so many have no source
abbrev pub invariant-loop : goal.invariant-loop
invariant-loop g l = l.ports.items ≡ replicate l.counter None
