-- The nodes of a network.
use Rattle.std.specs.Prelude.{◌≡◌, ℕ, suc, max, List, [], ◌∷◌, slice_get, Some}
use Rattle.kahn_net.specs.Syntax.{Code, Network}

-- the least number above the node of each process
abbrev pub nodes_above : List Code → ℕ
nodes_above [] = 0
nodes_above (code ∷ codes) = max (suc code.node) (nodes_above codes)

-- the number of nodes: the greatest node number plus 1, at least 1
abbrev pub node_count : Network → ℕ
node_count net = max 1 (nodes_above net.codes)

-- each process is on node 0, the only one
pub record IsOnOneNode (net : Network) : Type 0 where
  pub node : (p : ℕ) (code : Code) → slice_get net.codes p ≡ Some code → code.node ≡ 0
  pub count : node_count net ≡ 1
