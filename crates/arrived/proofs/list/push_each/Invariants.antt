use Rattle.std.proofs.Common.{◌≡◌, ◌+◌, ◌++◌, take}
use Rattle.std.specs.VecDeque.{deque_len, deque_capacity}
use Rattle.arrived.proofs.list.push_each.Given as goal

abbrev pub invariant-loop-item : goal.invariant-loop-item
invariant-loop-item l = record {
  added : l.kept.items ≡ l.initial.kept.items ++ take l.item-index l.items;
  count : deque_len l.kept ≡ deque_len l.initial.kept + l.item-index;
  room : deque_capacity l.kept ≡ deque_capacity l.initial.kept;
}
