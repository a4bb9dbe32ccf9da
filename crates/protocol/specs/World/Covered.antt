-- What a crash may leave covers what has left the system.
use Rattle.std.specs.Prelude.{◌≡◌, ◌⊎◌, ℕ, ◌≤◌, List, length, Some, slice_get}
use Rattle.slot_cell.specs.Whole.{Whole}
use Rattle.ckpt_codec.specs.Common.{ImageView, RecordView, sent_of}
use Rattle.ckpt_store.specs.Spelling.{Spells, SpellsSome}
use Rattle.protocol.specs.World.OutputView.{OutputView}

-- a crash leaves a record, and its permanent image has put each item that left by this output
pub record IsCovered (left : Whole) (output : OutputView) : Type 0 where
  pub something : SpellsSome left
  pub covers : (kept : RecordView) → Spells kept left → length output.taken ≤ sent_of kept.permanent output.channel

abbrev pub AreCovered : Whole → List OutputView → Type 0
AreCovered left outputs = (j : ℕ) (output : OutputView) → slice_get outputs j ≡ Some output → IsCovered left output

-- whatever a crash at any moment since `old` leaves of a cell has put each item that left by these outputs
abbrev pub AreCoveredSince : {C : Type 0} → (C → ℕ) → (C → ℕ → Whole → Type 0) → C → C → List OutputView
    → Type 0
AreCoveredSince moment left_since old new outputs =
    (left : Whole) → left_since new (moment old) left → AreCovered left outputs

-- a crash leaves a record whose permanent image has put at least as many items on each channel as this one
pub record LeavesAsMuch (image : ImageView) (left : Whole) : Type 0 where
  pub something : SpellsSome left
  pub as_much : (kept : RecordView) → Spells kept left → (channel : ℕ)
      → sent_of image channel ≤ sent_of kept.permanent channel

-- a crash leaves a record, and it is one of these two
pub record LeavesEither (kept next : RecordView) (left : Whole) : Type 0 where
  pub something : SpellsSome left
  pub one_of : (spelled : RecordView) → Spells spelled left → (spelled ≡ kept) ⊎ (spelled ≡ next)
