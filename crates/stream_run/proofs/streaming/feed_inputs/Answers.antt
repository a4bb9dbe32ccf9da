use Rattle.std.proofs.Common.{◌∙◌, refl}
use Rattle.growing.proofs.GoingOn.{goes_on_then}
use Rattle.live.specs.LiveViews.{world_on}
use Rattle.stream_run.proofs.Feeding.{ends_since, fed_since, part_then}
use Rattle.stream_run.proofs.streaming.feed_inputs.Goals as goal

pub returns-in-Ok-false-clause-fed : goal.returns-in-Ok-false-clause-fed
returns-in-Ok-false-clause-fed g c =
    fed_since (g.X.Outside.came c.args.outside.now) (g.X.Outside.came c.feed_all.new.outside)
    (g.X.Outside.came c.feed_all-in-Ok-false.new.outside) (world_on c.args.live.now) (world_on c.feed_all.new.live)
    (world_on c.feed_all-in-Ok-false.new.live) c.feed_all-in-Ok-false.result c.in-Ok-false.ensures.fed c.feed_all-in-Ok-false.ensures.fed

pub returns-in-Ok-false-clause-part : goal.returns-in-Ok-false-clause-part
returns-in-Ok-false-clause-part g c =
    part_then (g.X.Outside.came c.args.outside.now) (g.X.Outside.came c.feed_all.new.outside)
    (g.X.Outside.came c.feed_all-in-Ok-false.new.outside) (world_on c.args.live.now) (world_on c.feed_all.new.live)
    (world_on c.feed_all-in-Ok-false.new.live) c.in-Ok-false.ensures.fed c.feed_all-in-Ok-false.ensures.part

pub returns-in-Ok-false-clause-end : goal.returns-in-Ok-false-clause-end
returns-in-Ok-false-clause-end g c = c.feed_all-in-Ok-false.ensures.end refl

pub returns-in-Ok-false-clause-gone_on : goal.returns-in-Ok-false-clause-gone_on
returns-in-Ok-false-clause-gone_on g c =
    goes_on_then (world_on c.args.live.now) (world_on c.feed_all.new.live) (world_on c.feed_all-in-Ok-false.new.live)
    c.feed_all.ensures.gone_on c.feed_all-in-Ok-false.ensures.gone_on

pub returns-in-Ok-false-clause-failed : goal.returns-in-Ok-false-clause-failed
returns-in-Ok-false-clause-failed g c =
    ends_since (g.X.Outside.has_failed c.feed_all-in-Ok-false.new.outside) (g.X.Outside.came c.args.outside.now)
    (g.X.Outside.came c.feed_all.new.outside) (g.X.Outside.came c.feed_all-in-Ok-false.new.outside) (world_on c.args.live.now)
    (world_on c.feed_all.new.live) c.feed_all-in-Ok-false.result c.in-Ok-false.ensures.fed c.feed_all.ensures.gone_on.same_net
    c.feed_all-in-Ok-false.ensures.failed
