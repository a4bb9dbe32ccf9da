-- Nothing is in flight where a run begins.
use Rattle.std.proofs.Common.{◌≡◌, ◌⊎◌, inl, inr, ℕ, [], ap, ◌∙◌}
use Rattle.protocol.specs.World.Common.{flights_to, WorldView}
use Rattle.starting_again.proofs.Again.{nothing_opened}
use Rattle.whole_run.specs.Beginnings.{Begins, IsMade, IsRunAgain}

pub nothing_begins : (world : WorldView) → Begins world → (to : ℕ) → flights_to world.traffic to ≡ []
nothing_begins world begins to = by begins.how
  where
    by : IsMade world ⊎ IsRunAgain world → flights_to world.traffic to ≡ []
    by (inl made) = ap (λ (w : WorldView). flights_to w.traffic to) made.is ∙ nothing_opened to
    by (inr again) = again.opens.nothing to
