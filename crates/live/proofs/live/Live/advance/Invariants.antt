use Rattle.std.proofs.Common.{◌≡◌}
use Rattle.live.specs.LiveViews.{closed_on, live_view, rooms_on}
use Rattle.live.specs.Steps.{AreSteps}
use Rattle.live.proofs.live.Live.advance.Given as goal

-- so many steps were made, and what they don't touch is the same
abbrev pub invariant-loop-step : goal.invariant-loop-step
invariant-loop-step g l = record {
  made : AreSteps (rooms_on l.fn.self) l.nodes l._step (live_view l.fn.self) (live_view l.self);
  rooms : rooms_on l.self ≡ rooms_on l.fn.self;
  closed : closed_on l.self ≡ closed_on l.fn.self;
  taken : l.self.taken ≡ l.fn.self.taken;
}
