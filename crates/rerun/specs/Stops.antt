-- Why a run stops.
use Rattle.std.specs.Prelude.{◌≤◌, ℕ, ℤ, List}
use Rattle.kahn_net.specs.Syntax.{Network}
use Rattle.rerun.specs.Tables.{TableView, AreSwept, HaveReached, IsAtRest}
use Rattle.rerun.specs.declared.stopped.Stopped.{Stopped}
use Rattle.rerun.specs.declared.stopped.Stopped.TheVariants.{Reached, Rests, Sweeps}

-- all processes went on so often at most
abbrev pub AreSweptWithin : Network → List (List ℤ) → List ℕ → ℕ → TableView → TableView → Type 0
AreSweptWithin net inputs limits most old new =
    (n : ℕ) × (n ≤ most) × AreSwept net inputs limits n old new

-- All processes went on in turn, and then each output had what its limit says, or none could move, or they had done so
-- exactly as often as they were to.
abbrev pub StopsSo : Network → List (List ℤ) → List ℕ → ℕ → TableView → TableView → Stopped → Type 0
StopsSo net inputs limits most old new Reached =
    AreSweptWithin net inputs limits most old new × HaveReached net.channels limits new
StopsSo net inputs limits most old new Rests =
    AreSweptWithin net inputs limits most old new × IsAtRest net inputs limits new
StopsSo net inputs limits most old new Sweeps = AreSwept net inputs limits most old new
