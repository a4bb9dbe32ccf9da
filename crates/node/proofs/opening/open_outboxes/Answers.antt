use Rattle.std.proofs.Common.{rules, sym, ◌∙◌, arith}
use Rattle.protocol.specs.Node.Common.{network_of, is_outgoing}
use Rattle.protocol.specs.Node.Opening.{new_outbox}
use Rattle.layout.proofs.Walking.{taken_next, passed_next}
use Rattle.node.proofs.opening.open_outboxes.Goals as goal
use Rattle.node.proofs.opening.open_outboxes.Goals.{then-is_outgoing+in_ok-push, else-is_outgoing}

pub loop-number-preserved : goal.loop-number-preserved
loop-number-preserved c =
    let below = c.loop-number-test.true in
    let count = c.len-number-end.ensures in
    elim c.if-is_outgoing.branch [
      | then-is_outgoing+in_ok-push w ↦
          taken_next new_outbox (is_outgoing (network_of c.args.net.now.program) c.args.home)
          _ _ _ c.loop-number.number _ (omega (arith, below, count)) c.loop-number.invariant
          (sym c.is_outgoing.ensures ∙ w.if-is_outgoing.true) (search rules)
      | else-is_outgoing w ↦
          passed_next new_outbox (is_outgoing (network_of c.args.net.now.program) c.args.home)
          _ _ _ c.loop-number.number _ (omega (arith, below, count)) c.loop-number.invariant
          (sym c.is_outgoing.ensures ∙ w.if-is_outgoing.false) (search rules)
    ]
