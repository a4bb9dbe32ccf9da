use Rattle.std.proofs.Common.{◌≡◌, ◌<◌, ℕ, [], get_or}
use Rattle.approximations.proofs.adding.are_empty.Given as goal

abbrev pub invariant-loop-history : goal.invariant-loop-history
invariant-loop-history l = (c : ℕ) → c < l.history-index → get_or l.all c [] ≡ []
