use Rattle.std.proofs.Common.{◌≡◌, ◌≤◌, ◌++◌, take, drop}
use Rattle.arrayvec.specs.ArrayVec.{array_vec_len}
use Rattle.protocol.specs.Node.Common.{ready_items}
use Rattle.node_memory.proofs.popping.add_ready.Given as goal

-- what is listed, and then what is to come
abbrev pub invariant-loop-place : goal.invariant-loop-place
invariant-loop-place l = record {
  all : l.items.items ++ take l.left (ready_items (drop l.place l.window.held))
      ≡ l.initial.items.items ++ take l.most (ready_items (drop l.first l.window.held));
  few : array_vec_len l.items ≤ l.place;
}
