use Rattle.std.proofs.Common.{◌≡◌, ℕ, ◌-◌, List, ◌++◌, map, rules, arith, sym, ap, ◌∙◌}
use Rattle.layout.proofs.Walking.{taken_next, passed_next}
use Rattle.protocol.specs.Node.Layout.{numbers_where}
use Rattle.recovery_line.specs.Observers.{has_node}
use Rattle.decide_core.proofs.Listing.{map_same}
use Rattle.std.proofs.lemmas.Grind.{common_steps}
use Rattle.decide_core.proofs.initiator.Initiator.participants.Goals as goal
use Rattle.decide_core.proofs.initiator.Initiator.participants.Goals.{then-has_node+in_ok-push, else-has_node}

pub loop-node-init : goal.loop-node-init
loop-node-init c =
    let all : c.args.nodes - 0 ≡ c.args.nodes = omega arith in
    let takers = c.as_slice-takers.result.now in
    ap (λ (xs : List ℕ). xs ++ map (λ (n : ℕ). n) (numbers_where (λ p. has_node p takers) 0 (c.args.nodes - 0)))
    c.new-participants.ensures.items
    ∙ (ap (λ (n : ℕ). map (λ (m : ℕ). m) (numbers_where (λ p. has_node p takers) 0 n)) all
    ∙ map_same (numbers_where (λ p. has_node p takers) 0 c.args.nodes))

pub loop-node-preserved : goal.loop-node-preserved
loop-node-preserved c =
    elim c.if-has_node.branch [
      | then-has_node+in_ok-push w ↦
          taken_next (λ (n : ℕ). n) (λ p. has_node p c.as_slice-takers.result.now) _ _ _ c.loop-node.node
          c.args.nodes c.loop-node-test.true c.loop-node.invariant
          (sym c.has_node.ensures ∙ w.if-has_node.true) (search rules)
      | else-has_node w ↦
          passed_next (λ (n : ℕ). n) (λ p. has_node p c.as_slice-takers.result.now)
          _ _ _ c.loop-node.node c.args.nodes c.loop-node-test.true c.loop-node.invariant
          (sym c.has_node.ensures ∙ w.if-has_node.false) (search rules)
    ]

pub returns : goal.returns
returns c = grind (arith, common_steps)
