use Rattle.std.proofs.Common.{◌≡◌}
use Rattle.kahn_net.specs.Common.{network_of, approximation}
use Rattle.stream_eq.specs.Limits.{IsWithin}
use Rattle.stream_eq.proofs.approximation.approximate.Given as goal

abbrev pub invariant-loop-round : goal.invariant-loop-round
invariant-loop-round l = record {
  value : l.histories.items ≡ approximation (network_of l.net.program) l.inputs l.round;
  within : IsWithin l.limits.items l.histories.items;
}
