use Rattle.std.proofs.Common.{◌≡◌, ◌++◌, ◌+◌, ◌-◌, ◌≤◌, ℕ, [], map, vec_len}
use Rattle.std.specs.List.{All}
use Rattle.std.specs.Vec.{vec_capacity}
use Rattle.marks.specs.Known.{known_of}
use Rattle.marks.specs.Owners.{nodes_from}
use Rattle.marks.specs.Seats.{known, node_of}
use Rattle.marks.proofs.marks.Opened.named.Given as goal

abbrev pub invariant-loop-node : goal.invariant-loop-node
invariant-loop-node g l = record {
  first : l.driver.id ≡ 0;
  here : l.driver.table_id ≡ l.table.shared.table_id;
  of_no_node : l.driver.me.0.node ≡ l.fn.self.driver.me.0.node;
  deals : l.driver.me.0.dealt ≡ l.node;
  knows_nothing : (channel : ℕ) → known_of l.driver.me.0 channel ≡ [];
  made : map node_of l.seats.items ++ nodes_from l.node (l.nodes - l.node) ≡ nodes_from 0 l.nodes;
  fresh : (channel : ℕ) → All (λ seat. known seat channel ≡ []) l.seats.items;
  count : vec_len l.seats ≡ l.node;
  room : l.nodes + 1 ≤ vec_capacity l.seats;
}
