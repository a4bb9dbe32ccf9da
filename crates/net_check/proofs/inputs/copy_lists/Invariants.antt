use Rattle.std.proofs.Common.{◌≡◌, take}
use Rattle.net_check.proofs.inputs.copy_lists.Given as goal

abbrev pub invariant-loop-list : goal.invariant-loop-list
invariant-loop-list l = l.copies.items ≡ take l.list-index l.lists
