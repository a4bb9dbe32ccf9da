use Rattle.std.proofs.Common.{◌≡◌, ◌+◌, ◌++◌, take}
use Rattle.std.specs.VecDeque.{deque_len, deque_capacity}
use Rattle.retained.proofs.log.push_each.Given as goal

abbrev pub invariant-loop-item : goal.invariant-loop-item
invariant-loop-item l = record {
  added : l.log.items ≡ l.initial.log.items ++ take l.item-index l.items;
  count : deque_len l.log ≡ deque_len l.initial.log + l.item-index;
  room : deque_capacity l.log ≡ deque_capacity l.initial.log;
}
