use Rattle.std.proofs.Common.{take}
use Rattle.net_check.specs.Joints.{AreJoined}
use Rattle.net_check.proofs.join.join_all.Given as goal

abbrev pub invariant-loop-c : goal.invariant-loop-c
invariant-loop-c l = AreJoined (take l.c l.channels) l.producers l.consumers l.joined.items
