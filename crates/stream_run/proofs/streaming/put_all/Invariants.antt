use Rattle.std.proofs.Common.{◌≡◌}
use Rattle.live.specs.LiveViews.{taken_of, world_on}
use Rattle.stream_run.specs.Linked.{AreTheSame, IsPutAsTaken}
use Rattle.stream_run.proofs.Putting.{AreAllPutBelow}
use Rattle.stream_run.proofs.streaming.put_all.Given as goal

-- the outputs so far have put out all that has left
abbrev pub invariant-loop-number : goal.invariant-loop-number
invariant-loop-number g l = record {
  fixed : g.X.Outside.fixed l.outside ≡ g.X.Outside.fixed l.fn.outside;
  put : IsPutAsTaken (g.X.Outside.left l.outside) (taken_of l.live) (world_on l.live);
  whole : AreAllPutBelow (g.X.Outside.left l.outside) (world_on l.live) l.number;
  world : l.live.world ≡ l.fn.live.world;
  same : AreTheSame (g.X.Outside.came l.fn.outside) (g.X.Outside.came l.outside) (g.X.Outside.has_ended l.fn.outside) (g.X.Outside.has_ended l.outside);
}
