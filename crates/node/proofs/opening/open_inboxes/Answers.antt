use Rattle.std.proofs.Common.{rules, sym, ◌∙◌, arith}
use Rattle.protocol.specs.Node.Common.{network_of, is_incoming}
use Rattle.protocol.specs.Node.Opening.{new_inbox}
use Rattle.layout.proofs.Walking.{taken_next, passed_next}
use Rattle.node.proofs.opening.open_inboxes.Goals as goal
use Rattle.node.proofs.opening.open_inboxes.Goals.{then-is_incoming+in_ok-new_inbox+in_ok-push, else-is_incoming}

pub loop-number-preserved : goal.loop-number-preserved
loop-number-preserved c =
    let below = c.loop-number-test.true in
    let count = c.len-number-end.ensures in
    elim c.if-is_incoming.branch [
      | then-is_incoming+in_ok-new_inbox+in_ok-push w ↦
          taken_next new_inbox (is_incoming (network_of c.args.net.now.program) c.args.home) _ _ _ c.loop-number.number
          _ (omega (arith, below, count)) c.loop-number.invariant
          (sym c.is_incoming.ensures ∙ w.if-is_incoming.true) (search rules)
      | else-is_incoming w ↦
          passed_next new_inbox (is_incoming (network_of c.args.net.now.program) c.args.home)
          _ _ _ c.loop-number.number _ (omega (arith, below, count)) c.loop-number.invariant
          (sym c.is_incoming.ensures ∙ w.if-is_incoming.false) (search rules)
    ]
