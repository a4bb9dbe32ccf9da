use Rattle.std.proofs.Common.{◌≡◌, drop}
use Rattle.arrived.proofs.list.drop_front.Given as goal

abbrev pub invariant-loop : goal.invariant-loop
invariant-loop l = l.items.items ≡ drop l.counter l.initial.items.items
