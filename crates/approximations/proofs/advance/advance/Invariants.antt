use Rattle.std.proofs.Common.{◌≡◌, length}
use Rattle.kahn_net.specs.Common.{network_of}
use Rattle.approximations.specs.AtHand.{left_from}
use Rattle.approximations.specs.Progress.{AreShortWith, IsOn, IsSameElsewhere}
use Rattle.approximations.proofs.advance.advance.Given as goal

abbrev pub invariant-loop-alloc : goal.invariant-loop-alloc
invariant-loop-alloc l = record {
  on : IsOn (network_of l.net.value.program) l.process l.histories l.progress l.added;
  counts : length l.progress.got.items ≡ length l.net.value.program.channels.items;
  wide : length l.added ≡ length l.net.value.program.channels.items;
  elsewhere : IsSameElsewhere (network_of l.net.value.program) l.process l.initial.added l.added;
  short : AreShortWith l.histories l.added;
}

-- each turn takes an item
abbrev pub decreases-loop-alloc : goal.decreases-loop-alloc
decreases-loop-alloc l = left_from 0 l.histories l.progress.got.items
