use Rattle.std.proofs.Common.{◌≡◌, take}
use Rattle.stream_eq.proofs.histories.are_same.Given as goal

abbrev pub invariant-loop-c : goal.invariant-loop-c
invariant-loop-c l = take l.c l.left ≡ take l.c l.right
