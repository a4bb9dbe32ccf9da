use Rattle.std.proofs.Common.{◌≡◌, ◌++◌, take}
use Rattle.approximations.proofs.adding.append.Given as goal

abbrev pub invariant-loop-item : goal.invariant-loop-item
invariant-loop-item l = l.history ≡ l.initial.history ++ take l.item-index l.items
