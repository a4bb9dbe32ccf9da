use Rattle.std.proofs.Common.{refl}
use Rattle.live.specs.LiveViews.{world_on}
use Rattle.stream_run.proofs.Feeding.{fed_in_part, none_fed}
use Rattle.stream_run.proofs.Streams.{stands}
use Rattle.stream_run.proofs.streaming.feed_in_turn.Goals as goal

pub returns-else-is_asked-clause-part : goal.returns-else-is_asked-clause-part
returns-else-is_asked-clause-part g c =
    let came = g.X.Outside.came c.args.outside.now in
    let world = world_on c.args.live.now in
    fed_in_part came came world world (none_fed came came world world (λ input. refl) refl)

pub returns-else-is_asked-clause-gone_on : goal.returns-else-is_asked-clause-gone_on
returns-else-is_asked-clause-gone_on g c = stands (world_on c.args.live.now) c.args.live.now.world.sound
