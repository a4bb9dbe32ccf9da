use Rattle.std.proofs.Common.{rules, arith}
use Rattle.kahn_net.specs.Syntax.{network_of}
use Rattle.protocol.specs.Node.Needs.{question_on}
use Rattle.decide_core.specs.InitiatorView.{question_view}
use Rattle.decide_core.proofs.Listing.{listed_next}
use Rattle.decide_core.proofs.initiator.questions_of.Goals as goal

pub loop-channel-preserved : goal.loop-channel-preserved
loop-channel-preserved c =
    let below = c.loop-channel-test.true in
    let count = c.len-channels.ensures in
    listed_next (question_on (network_of c.args.net.now.program) c.args.home c.args.permanent.now c.args.image.now)
    question_view c.loop-channel.questions.items _ _ c.question_on.result c.loop-channel.channel _
    (omega (arith, below, count)) c.loop-channel.invariant c.question_on.ensures (search rules)
