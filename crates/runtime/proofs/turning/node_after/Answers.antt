use Rattle.std.proofs.Common.{◌<◌, ◌≤◌, ◌+◌, ◌∙◌, ℕ, ap, arith}
use Rattle.runtime.proofs.Turns.{next_node}
use Rattle.runtime.proofs.turning.node_after.Goals as goal

pub returns-then-next-nodes : goal.returns-then-next-nodes
returns-then-next-nodes c turn is =
    let few : c.args.node + 1 < c.args.nodes = omega arith in
    ap (λ (n : ℕ). n + 1) c.from-next.ensures ∙ (next_node c.args.nodes c.args.node turn is).0 few

pub returns-else-next-nodes : goal.returns-else-next-nodes
returns-else-next-nodes c turn is =
    let last : c.args.nodes ≤ c.args.node + 1 = omega arith in
    (next_node c.args.nodes c.args.node turn is).1 last
