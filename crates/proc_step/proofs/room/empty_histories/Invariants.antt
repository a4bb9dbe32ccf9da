use Rattle.std.proofs.Common.{◌≡◌, [], replicate}
use Rattle.proc_step.proofs.room.empty_histories.Given as goal

abbrev pub invariant-loop : goal.invariant-loop
invariant-loop l = l.sent.items ≡ replicate l.index []
