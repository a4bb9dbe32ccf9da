use Rattle.std.proofs.Common.{◌≡◌}
use Rattle.std.proofs.Math.Logic.{∥∥₁_map}
use Rattle.kahn_net.specs.Common.{standing_of}
use Rattle.approximations.specs.AtHand.{at_hand_from, room_from}
use Rattle.approximations.proofs.Own.{own_turn}
use Rattle.approximations.proofs.at_hand.make_turn.Goals as goal

pub returns-in-Ok-clause-turn : goal.returns-in-Ok-clause-turn
returns-in-Ok-clause-turn c code is =
    let net = c.args.net.now.value in
    let job = c.in_ok-job.job in
    let done = c.in-Ok.done in
    let same : done.job.value ≡ job = cc (c.in-Ok.ensures, c.in_ok-new.ensures.ok) in
    ∥∥₁_map done.turn
    (own_turn job done.job.value net c.args.process (standing_of c.args.progress.now.state)
    (at_hand_from c.args.histories.now c.args.progress.now.got.items c.args.process 0 net.program.channels.items)
    (room_from c.args.process net.program.channels.items) done.state done.taken.items done.sent.items code same
    c.in_ok-job.ensures.net c.in_ok-job.ensures.process c.in_ok-job.ensures.state c.in_ok-job.ensures.items
    c.in_ok-job.ensures.room is)
