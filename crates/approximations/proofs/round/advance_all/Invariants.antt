use Rattle.std.proofs.Common.{◌≡◌, ◌<◌, ℕ, length}
use Rattle.kahn_net.specs.Common.{network_of}
use Rattle.approximations.specs.Progress.{AreOn, AreShortWith, HasPutAll, IsInside}
use Rattle.approximations.proofs.round.advance_all.Given as goal

abbrev pub invariant-loop-process : goal.invariant-loop-process
invariant-loop-process l = record {
  on : AreOn (network_of l.net.value.program) l.histories l.all l.added.items;
  put : (p : ℕ) → p < l.process → HasPutAll (network_of l.net.value.program) p l.histories l.added.items;
  inside : IsInside (network_of l.net.value.program) l.added.items;
  short : AreShortWith l.histories l.added.items;
  wide : length l.added.items ≡ length l.histories;
}
