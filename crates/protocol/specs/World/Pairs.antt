-- What an event does to a station's cell, to what has left it, to what covers that, and to the other stations.
use Rattle.std.specs.Prelude.{◌≡◌, ◌⊎◌, ◌≤◌, ℕ, List, slice_get}
use Rattle.slot_cell.specs.Whole.{Whole}
use Rattle.ckpt_codec.specs.Common.{RecordView}
use Rattle.protocol.specs.World.OutputView.{OutputView}
use Rattle.protocol.specs.World.StationView.{OutletView}
use Rattle.protocol.specs.World.Growing.{EachBegins}
use Rattle.protocol.specs.World.Covered.{AreCoveredSince, LeavesEither}

-- whatever a crash at any moment since `old` leaves is one of these two records
abbrev pub LeaveEitherSince : {C : Type 0} → (C → ℕ) → (C → ℕ → Whole → Type 0) → C → C → RecordView
    → RecordView → Type 0
LeaveEitherSince moment left_since old new kept next =
    (left : Whole) → left_since new (moment old) left → LeavesEither kept next left

-- A cell's clock doesn't go back. Either the cell wasn't touched, or nothing left by the outlets, and whatever a crash
-- at any moment meanwhile leaves is the record that was kept before, or the next one.
pub record HasMoved {C : Type 0} (moment : C → ℕ) (left_since : C → ℕ → Whole → Type 0) (old new : C)
    (kept next : RecordView) (before after : List OutletView) : Type 0 where
  pub later : moment old ≤ moment new
  pub apart : (old ≡ new) ⊎ ((before ≡ after) × LeaveEitherSince moment left_since old new kept next)

-- A station's outputs only grew; whatever a crash at any moment meanwhile leaves of its cell covers all that left; and
-- either nothing left or the cell wasn't touched.
pub record HasGrown {C : Type 0} (moment : C → ℕ) (left_since : C → ℕ → Whole → Type 0) (old new : C)
    (before after : List OutputView) : Type 0 where
  pub later : moment old ≤ moment new
  pub begins : EachBegins before after
  pub covered : AreCoveredSince moment left_since old new after
  pub apart : (before ≡ after) ⊎ (old ≡ new)

-- two lists have the same at each place but this one
abbrev pub AreSameElsewhere : {A : Type 0} → ℕ → List A → List A → Type 0
AreSameElsewhere place old new = (k : ℕ) → ¬ (k ≡ place) → slice_get new k ≡ slice_get old k
