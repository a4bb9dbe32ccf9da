use Rattle.std.proofs.Common.{◌≡◌, ◌≢◌, ◌-◌, ℕ, length}
use Rattle.live.specs.LiveViews.{taken_of, world_on}
use Rattle.outside.specs.Departures.{items_by}
use Rattle.protocol.specs.World.Common.{released_of}
use Rattle.stream_run.specs.Linked.{AreTheSame, IsPutAsTaken}
use Rattle.stream_run.proofs.streaming.put_items.Given as goal

-- what was put out is what was taken, and nothing else is changed
abbrev pub invariant-items : goal.invariant-items
invariant-items g l = record {
  fixed : g.X.Outside.fixed l.outside ≡ g.X.Outside.fixed l.fn.outside;
  put : IsPutAsTaken (g.X.Outside.left l.outside) (taken_of l.live) (world_on l.live);
  world : l.live.world ≡ l.fn.live.world;
  others : (other : ℕ) → other ≢ l.output → items_by other (g.X.Outside.left l.outside) ≡ items_by other (g.X.Outside.left l.fn.outside);
  same : AreTheSame (g.X.Outside.came l.fn.outside) (g.X.Outside.came l.outside) (g.X.Outside.has_ended l.fn.outside) (g.X.Outside.has_ended l.outside);
}

-- so many items weren't taken yet
abbrev pub decreases-items : goal.decreases-items
decreases-items g l = length (released_of l.output (world_on l.live).stations) - taken_of l.live l.output
