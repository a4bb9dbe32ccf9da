use Rattle.std.proofs.Common.{◌≡◌, take, map, length, ℤ}
use Rattle.stream_eq.proofs.solution.lengths.Given as goal

abbrev pub invariant-loop-history : goal.invariant-loop-history
invariant-loop-history l = l.limits.items ≡ map (length {A = ℤ}) (take l.history-index l.histories)
