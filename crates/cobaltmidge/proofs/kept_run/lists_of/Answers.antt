use Rattle.std.proofs.Common.{rules, ◌∙◌}
use Rattle.world.specs.WholeView.{world_of}
use Rattle.cobaltmidge.proofs.Lists.{released_more}
use Rattle.cobaltmidge.proofs.kept_run.lists_of.Goals as goal

pub loop-channel-preserved : goal.loop-channel-preserved
loop-channel-preserved g c = (
  search rules,
  released_more (world_of c.args.world.now) c.loop-channel.channel _ _ _ c.in_ok-push.ensures.items c.loop-channel.invariant.0
      (c.in_ok-from_slice.ensures.items ∙ c.released.ensures.stream) c.loop-channel.invariant.1,
)
