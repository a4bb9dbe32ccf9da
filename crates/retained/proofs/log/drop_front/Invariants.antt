use Rattle.std.proofs.Common.{◌≡◌, drop}
use Rattle.retained.proofs.log.drop_front.Given as goal

abbrev pub invariant-loop : goal.invariant-loop
invariant-loop l = l.items.items ≡ drop l.counter l.initial.items.items
