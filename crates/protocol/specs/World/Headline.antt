-- What has left the system is right: of each output, a prefix of its channel's history in one approximation.
use Rattle.std.specs.Prelude.{◌≡◌, ℕ, ℤ, List, Some, slice_get}
use Rattle.ckpt_codec.specs.Common.{history_of, IsPrefix, Network, approximation}
use Rattle.protocol.specs.World.Invariant.{outputs_of}
use Rattle.protocol.specs.World.OutputView.{OutputView}
use Rattle.protocol.specs.World.StationView.{StationView}
use Rattle.protocol.specs.World.Steps.{WorldView}

-- what has left by each of these outputs is a prefix of its channel's history in the n-th approximation
abbrev pub AreWithin : Network → List (List ℤ) → List OutputView → ℕ → Type 0
AreWithin net inputs outputs n = (j : ℕ) (output : OutputView) → slice_get outputs j ≡ Some output
    → IsPrefix output.taken (history_of (approximation net inputs n) output.channel)

-- what has left by each output of these stations is a prefix of its channel's history in the n-th approximation
abbrev pub AreAllWithin : Network → List (List ℤ) → List StationView → ℕ → Type 0
AreAllWithin net inputs stations n = (i : ℕ) (station : StationView) → slice_get stations i ≡ Some station
    → AreWithin net inputs (outputs_of station.outlets) n

-- What has left by each output of a world is a prefix of its channel's history, all in one and the same
-- approximation.
abbrev pub AreApproximated : WorldView → Type 0
AreApproximated world = ∥ ((n : ℕ) × AreAllWithin world.net world.inputs world.stations n) ∥₁
