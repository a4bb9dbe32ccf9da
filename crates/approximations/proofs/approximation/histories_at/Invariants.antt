use Rattle.std.proofs.Common.{◌≡◌, []}
use Rattle.kahn_net.specs.Common.{network_of, approximation}
use Rattle.approximations.specs.Progress.{AreOn, AreShortWith}
use Rattle.approximations.proofs.approximation.histories_at.Given as goal

abbrev pub invariant-loop-round : goal.invariant-loop-round
invariant-loop-round l = record {
  value : l.histories.items ≡ approximation (network_of l.net.value.program) l.inputs l.round;
  on : AreOn (network_of l.net.value.program) l.histories.items l.all.items [];
  short : AreShortWith l.histories.items [];
}
