use Rattle.std.proofs.Common.{◌≡◌, ℕ, suc, ◌<◌, ◌≤◌, List, [], ◌∷◌, Some, refl, arith}
use Rattle.std.specs.Prelude.{slice_get}
use Rattle.kahn_net.specs.Syntax.{network_of}
use Rattle.kahn_net.specs.Nodes.{node_count, nodes_above}
use Rattle.kahn_net.specs.declared.limits.TheConstants.{MAX_NODES}
use Rattle.protocol.specs.Node.Common.{Code}
use Rattle.std.proofs.lemmas.Grind.{common_steps}
use Rattle.layout.proofs.nodes.node_count.Goals as goal

-- (as in protocol_laws, which isn't below this crate)
few_above : (codes : List Code) → ((p : ℕ) (code : Code) → slice_get codes p ≡ Some code → code.node < MAX_NODES)
    → nodes_above codes ≤ MAX_NODES
few_above [] few = omega arith
few_above (x ∷ codes) few =
    let one : x.node < MAX_NODES = few 0 x refl in
    let rest : nodes_above codes ≤ MAX_NODES = few_above codes (λ p code is. few (suc p) code is) in
    omega (arith, one, rest)

pub returns-clause-few : goal.returns-clause-few
returns-clause-few c =
    let all = c.loop-process.invariant in
    let net = network_of c.args.net.now.program in
    let few : nodes_above net.codes ≤ MAX_NODES =
    few_above net.codes (λ p code is. (c.args.net.now.valid.codes p code is).node) in
    omega (arith, all, few)

pub loop-process-preserved : goal.loop-process-preserved
loop-process-preserved c = grind (arith, common_steps)
