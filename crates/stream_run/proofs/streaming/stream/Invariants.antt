use Rattle.std.proofs.Common.{◌≡◌}
use Rattle.growing.specs.WhateverComes.{HasGoneOn}
use Rattle.live.specs.LiveViews.{closed_on, taken_of, world_on}
use Rattle.stream_run.specs.Linked.{AreFedAll, IsPutAsTaken}
use Rattle.stream_run.proofs.streaming.stream.Given as goal

-- what came is fed, what was put out is what was taken, and the network has gone on
abbrev pub invariant-pieces : goal.invariant-pieces
invariant-pieces g l = record {
  fixed : g.X.Outside.fixed l.outside ≡ g.X.Outside.fixed l.fn.outside;
  put : IsPutAsTaken (g.X.Outside.left l.outside) (taken_of l.live) (world_on l.live);
  fed : AreFedAll (g.X.Outside.came l.fn.outside) (g.X.Outside.came l.outside) (world_on l.fn.live) (world_on l.live);
  gone_on : HasGoneOn (world_on l.fn.live) (world_on l.live);
  closed : closed_on l.live ≡ closed_on l.fn.live;
}
