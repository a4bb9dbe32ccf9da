use Rattle.std.proofs.Common.{◌≡◌, [], replicate}
use Rattle.approximations.proofs.adding.empty_histories.Given as goal

abbrev pub invariant-loop : goal.invariant-loop
invariant-loop l = l.all.items ≡ replicate l.counter []
