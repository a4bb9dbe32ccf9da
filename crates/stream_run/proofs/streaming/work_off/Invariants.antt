use Rattle.std.proofs.Common.{◌≡◌}
use Rattle.growing.specs.WhateverComes.{HasGoneOn}
use Rattle.live.specs.LiveViews.{closed_on, taken_of, world_on}
use Rattle.stream_run.specs.Linked.{AreTheSame, IsPutAsTaken}
use Rattle.stream_run.proofs.streaming.work_off.Given as goal

-- the network has gone on, what was put out is what was taken, and nothing came
abbrev pub invariant-steps : goal.invariant-steps
invariant-steps g l = record {
  fixed : g.X.Outside.fixed l.outside ≡ g.X.Outside.fixed l.fn.outside;
  put : IsPutAsTaken (g.X.Outside.left l.outside) (taken_of l.live) (world_on l.live);
  gone_on : HasGoneOn (world_on l.fn.live) (world_on l.live);
  closed : closed_on l.live ≡ closed_on l.fn.live;
  inputs : (world_on l.live).inputs ≡ (world_on l.fn.live).inputs;
  same : AreTheSame (g.X.Outside.came l.fn.outside) (g.X.Outside.came l.outside) (g.X.Outside.has_ended l.fn.outside) (g.X.Outside.has_ended l.outside);
}
