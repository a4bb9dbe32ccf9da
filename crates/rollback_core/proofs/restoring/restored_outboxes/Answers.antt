use Rattle.std.proofs.Common.{rules, sym, ◌∙◌, arith}
use Rattle.kahn_net.specs.Syntax.{network_of}
use Rattle.protocol.specs.Node.Layout.{is_outgoing}
use Rattle.protocol.specs.Node.Recovering.{restored_outbox}
use Rattle.layout.proofs.Walking.{taken_next, passed_next}
use Rattle.rollback_core.proofs.restoring.restored_outboxes.Goals as goal
use Rattle.rollback_core.proofs.restoring.restored_outboxes.Goals.{then-is_outgoing+in_ok-push, else-is_outgoing}

pub loop-channel-preserved : goal.loop-channel-preserved
loop-channel-preserved c =
    let below = c.loop-channel-test.true in
    let count = c.len-channel-end.ensures in
    elim c.if-is_outgoing.branch [
      | then-is_outgoing+in_ok-push w ↦
          taken_next (restored_outbox c.args.image.now) (is_outgoing (network_of c.args.net.now.program) c.args.home) _ _ _
          c.loop-channel.channel _ (omega (arith, below, count)) c.loop-channel.invariant
          (sym c.is_outgoing.ensures ∙ w.if-is_outgoing.true) (search rules)
      | else-is_outgoing w ↦
          passed_next (restored_outbox c.args.image.now) (is_outgoing (network_of c.args.net.now.program) c.args.home) _ _ _
          c.loop-channel.channel _ (omega (arith, below, count)) c.loop-channel.invariant
          (sym c.is_outgoing.ensures ∙ w.if-is_outgoing.false) (search rules)
    ]
