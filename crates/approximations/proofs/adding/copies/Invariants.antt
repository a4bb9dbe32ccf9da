use Rattle.std.proofs.Common.{◌≡◌, take}
use Rattle.approximations.proofs.adding.copies.Given as goal

abbrev pub invariant-loop-history : goal.invariant-loop-history
invariant-loop-history l = l.all.items ≡ take l.history-index l.histories
