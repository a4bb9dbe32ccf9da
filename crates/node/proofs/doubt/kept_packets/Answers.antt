use Rattle.std.proofs.Common.{rules, sym, ◌∙◌, arith}
use Rattle.protocol.specs.Node.Common.{network_of, is_incoming, kept_packet}
use Rattle.layout.proofs.Walking.{taken_next, passed_next}
use Rattle.node.proofs.doubt.kept_packets.Goals as goal
use Rattle.node.proofs.doubt.kept_packets.Goals.{then-is_incoming+in_ok-push, else-is_incoming}

pub loop-channel-preserved : goal.loop-channel-preserved
loop-channel-preserved c =
    let below = c.loop-channel-test.true in
    let count = c.len-channel-end.ensures in
    elim c.if-is_incoming.branch [
      | then-is_incoming+in_ok-push w ↦
          taken_next (kept_packet (network_of c.args.net.now.program) c.args.home c.args.permanent.now)
          (is_incoming (network_of c.args.net.now.program) c.args.home) _ _ _ c.loop-channel.channel
          _ (omega (arith, below, count)) c.loop-channel.invariant
          (sym c.is_incoming.ensures ∙ w.if-is_incoming.true) (search rules)
      | else-is_incoming w ↦
          passed_next (kept_packet (network_of c.args.net.now.program) c.args.home c.args.permanent.now)
          (is_incoming (network_of c.args.net.now.program) c.args.home)
          _ _ _ c.loop-channel.channel _ (omega (arith, below, count)) c.loop-channel.invariant
          (sym c.is_incoming.ensures ∙ w.if-is_incoming.false) (search rules)
    ]
