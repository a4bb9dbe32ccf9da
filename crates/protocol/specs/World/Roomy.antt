-- Cells with room for every record that may be kept.
use Rattle.std.specs.Prelude.{◌≡◌, ◌≤◌, ℕ, List, Some, slice_get}
use Rattle.ckpt_codec.specs.declared.lengths.TheConstants.{MAX_RECORD_BYTES}

-- of cells with slots of so many bytes each, the one of this number, if there is one, has room for the longest record
-- in a slot, and so for each of its images
abbrev pub HasFullRoom : ℕ → List ℕ → Type 0
HasFullRoom number capacities =
    (capacity : ℕ) → slice_get capacities number ≡ Some capacity → MAX_RECORD_BYTES ≤ capacity
