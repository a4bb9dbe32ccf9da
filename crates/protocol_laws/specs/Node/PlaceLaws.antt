-- Laws of the nodes of a network: each process is on one of them, and there are few.
use Rattle.std.proofs.Common.{◌≡◌, ℕ, zero, suc, ◌<◌, ◌≤◌, List, [], ◌∷◌, Some, refl, ap, arith}
use Rattle.std.specs.Prelude.{slice_get}
use Rattle.protocol.specs.Node.Common.{node_count, Code, Network, IsValid, MAX_NODES}
use Rattle.kahn_net.specs.Nodes.{nodes_above}

below_all : (codes : List Code) (p : ℕ) (code : Code) → slice_get codes p ≡ Some code → code.node < nodes_above codes
below_all [] p code is = absurd (cc)
below_all (x ∷ codes) zero code is =
    let same : x ≡ code = cc in
    let node : x.node ≡ code.node = ap (λ (c : Code). c.node) same in
    omega (arith, node)
below_all (x ∷ codes) (suc p) code is =
    let rest : code.node < nodes_above codes = below_all codes p code is in
    omega (arith, rest)

-- the node of a process is one of the network's
pub node_below : (net : Network) (p : ℕ) (code : Code) → slice_get net.codes p ≡ Some code → code.node < node_count net
node_below net p code is =
    let below : code.node < nodes_above net.codes = below_all net.codes p code is in
    omega (arith, below)

few_above : (codes : List Code) → ((p : ℕ) (code : Code) → slice_get codes p ≡ Some code → code.node < MAX_NODES)
    → nodes_above codes ≤ MAX_NODES
few_above [] few = omega arith
few_above (x ∷ codes) few =
    let one : x.node < MAX_NODES = few 0 x refl in
    let rest : nodes_above codes ≤ MAX_NODES = few_above codes (λ p code is. few (suc p) code is) in
    omega (arith, one, rest)

-- a valid network has no more nodes than are allowed
pub nodes_few : (net : Network) → IsValid net → node_count net ≤ MAX_NODES
nodes_few net valid =
    let above : nodes_above net.codes ≤ MAX_NODES = few_above net.codes (λ p code is. (valid.codes p code is).node) in
    omega (arith, above)
