use Rattle.std.proofs.Common.{◌≡◌, length}
use Rattle.net_check.specs.Bound.{AreEmpty, AreFalse}
use Rattle.net_check.proofs.binding.Binding.new.Given as goal

abbrev pub invariant-loop : goal.invariant-loop
invariant-loop l =
    record {
      lists : length l.lists.items ≡ l.counter;
      named : length l.named.items ≡ l.counter;
      empty : AreEmpty l.lists.items;
      fresh : AreFalse l.named.items;
    }
