use Rattle.std.proofs.Common.{◌≡◌, false}
use Rattle.growing.specs.WhateverComes.{HasGoneOn}
use Rattle.live.specs.LiveViews.{closed_on, stations_on, world_on}
use Rattle.stream_run.specs.Linked.{AreFedAll}
use Rattle.stream_run.specs.declared.asked.Asked.TheVariants.{All}
use Rattle.stream_run.proofs.Streams.{AreEndedBelow}
use Rattle.stream_run.proofs.streaming.feed_all.Given as goal

-- what came by the inputs so far is fed, and where all are read and none of them has more they came to their ends
abbrev pub invariant-loop-number : goal.invariant-loop-number
invariant-loop-number g l = record {
  fixed : g.X.Outside.fixed l.outside ≡ g.X.Outside.fixed l.fn.outside;
  fed : AreFedAll (g.X.Outside.came l.fn.outside) (g.X.Outside.came l.outside) (world_on l.fn.live) (world_on l.live);
  ended : l.asked ≡ All → l.any ≡ false → AreEndedBelow (world_on l.live).net (g.X.Outside.has_ended l.outside) l.number;
  gone_on : HasGoneOn (world_on l.fn.live) (world_on l.live);
  left : g.X.Outside.left l.outside ≡ g.X.Outside.left l.fn.outside;
  taken : l.live.taken ≡ l.fn.live.taken;
  closed : closed_on l.live ≡ closed_on l.fn.live;
  stations : stations_on l.live ≡ stations_on l.fn.live;
}
