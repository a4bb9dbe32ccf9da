use Rattle.std.proofs.Common.{refl}
use Rattle.live.specs.LiveViews.{closed_on, world_on}
use Rattle.stream_run.proofs.Feeding.{fed_at, fed_in_part, refused_at, stops, unfed_at}
use Rattle.stream_run.proofs.Streams.{stands}
use Rattle.stream_run.proofs.streaming.feed_next.Goals as goal

pub returns-in-Err-clause-part : goal.returns-in-Err-clause-part
returns-in-Err-clause-part g c =
    unfed_at (g.X.Outside.came c.args.outside.now) (g.X.Outside.came c.take.new.self) c.args.input
    (world_on c.args.live.now) (world_on c.args.live.now) c.in-Err.ensures.lost (λ other apart. (c.take.ensures.others other apart).0) refl

pub returns-in-Err-clause-gone_on : goal.returns-in-Err-clause-gone_on
returns-in-Err-clause-gone_on g c = stands (world_on c.args.live.now) c.args.live.now.world.sound

pub returns-in-Ok-feed-clause-fed : goal.returns-in-Ok-feed-clause-fed
returns-in-Ok-feed-clause-fed g c =
    fed_at (g.X.Outside.came c.args.outside.now) (g.X.Outside.came c.take.new.self) c.args.input c.take.new.items.items c.as_slice.result.now
    (world_on c.args.live.now) (world_on c.feed.new.self) c.as_slice.ensures.value c.args.live.now.world.sound c.requires.here c.in-Ok.ensures.came
    (λ other apart. (c.take.ensures.others other apart).0) c.in-Ok-feed.ensures.fed

pub returns-in-Ok-feed-clause-part : goal.returns-in-Ok-feed-clause-part
returns-in-Ok-feed-clause-part g c =
    fed_in_part (g.X.Outside.came c.args.outside.now) (g.X.Outside.came c.take.new.self)
    (world_on c.args.live.now) (world_on c.feed.new.self)
    (fed_at (g.X.Outside.came c.args.outside.now) (g.X.Outside.came c.take.new.self) c.args.input c.take.new.items.items c.as_slice.result.now
    (world_on c.args.live.now) (world_on c.feed.new.self) c.as_slice.ensures.value c.args.live.now.world.sound c.requires.here c.in-Ok.ensures.came
    (λ other apart. (c.take.ensures.others other apart).0) c.in-Ok-feed.ensures.fed)

pub returns-in-Err-feed-clause-part : goal.returns-in-Err-feed-clause-part
returns-in-Err-feed-clause-part g c =
    refused_at (g.X.Outside.came c.args.outside.now) (g.X.Outside.came c.take.new.self) c.args.input c.take.new.items.items
    (world_on c.args.live.now) (world_on c.feed.new.self) c.in-Ok.ensures.came
    (λ other apart. (c.take.ensures.others other apart).0) c.in-Err-feed.ensures.unchanged

pub returns-in-Err-feed-clause-failed : goal.returns-in-Err-feed-clause-failed
returns-in-Err-feed-clause-failed g c =
    stops (g.X.Outside.has_failed c.take.new.self) (g.X.Outside.came c.args.outside.now) (g.X.Outside.came c.take.new.self)
    (world_on c.args.live.now) (closed_on c.args.live.now) c.args.input c.take.new.items.items c.as_slice.result.now c.in-Err-feed.fault _
    c.as_slice.ensures.value c.in-Ok.ensures.came c.requires.here c.requires.open c.in-Err-feed.ensures.refused c.stop_by.ensures
