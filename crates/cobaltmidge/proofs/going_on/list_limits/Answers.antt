use Rattle.std.proofs.Common.{rules, arith}
use Rattle.std.proofs.lemmas.Grind.{common_steps}
use Rattle.cobaltmidge.proofs.GoingOn.{limits_next}
use Rattle.cobaltmidge.proofs.going_on.list_limits.Goals as goal

pub loop-channel-preserved : goal.loop-channel-preserved
loop-channel-preserved c =
    limits_next c.inner_limit-inner.result c.loop-channel.rest.now c.held_behind-rest.result.now c.args.channels.now
    c.loop-channel.channel-index c.limit_of.result _ c.loop-channel.limits.items c.push.new.self.items _ (search rules)
    c.loop-channel.invariant c.in_ok-push.ensures.items c.limit_of.ensures c.held_behind-rest.ensures

pub returns : goal.returns
returns c = grind (arith, common_steps)
