use Rattle.std.proofs.Common.{◌≡◌, take, drop}
use Rattle.arrived.proofs.list.ArrivedList.copy_since.Given as goal

abbrev pub invariant-loop-offset : goal.invariant-loop-offset
invariant-loop-offset l = l.items.items ≡ take l.offset (drop l.first l.self-inside.items.items)
