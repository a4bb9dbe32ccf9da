use Rattle.std.proofs.Common.{rules, sym, ◌∙◌, arith}
use Rattle.kahn_net.specs.Syntax.{network_of}
use Rattle.layout.proofs.Walking.{taken_next, passed_next}
use Rattle.protocol.specs.Node.Needs.{is_needed, need_on}
use Rattle.ckpt_core.proofs.saying.needs_of.Goals as goal
use Rattle.ckpt_core.proofs.saying.needs_of.Goals.{then-is_needed+in_ok-push, else-is_needed}

pub loop-channel-preserved : goal.loop-channel-preserved
loop-channel-preserved c =
    let below = c.loop-channel-test.true in
    let count = c.len-channel-end.ensures in
    elim c.if-is_needed.branch [
      | then-is_needed+in_ok-push w ↦
          taken_next (need_on c.args.image.now)
          (is_needed (network_of c.args.net.now.program) c.args.home c.args.permanent.now c.args.image.now) _ _ _
          c.loop-channel.channel
          _ (omega (arith, below, count)) c.loop-channel.invariant
          (sym c.is_needed.ensures ∙ w.if-is_needed.true) (search rules)
      | else-is_needed w ↦
          passed_next (need_on c.args.image.now)
          (is_needed (network_of c.args.net.now.program) c.args.home c.args.permanent.now c.args.image.now)
          _ _ _ c.loop-channel.channel _ (omega (arith, below, count)) c.loop-channel.invariant
          (sym c.is_needed.ensures ∙ w.if-is_needed.false) (search rules)
    ]
