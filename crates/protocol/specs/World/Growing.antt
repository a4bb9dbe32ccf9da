-- Outputs only grow.
use Rattle.std.specs.Prelude.{◌≡◌, ℕ, List, length, Some, slice_get}
use Rattle.protocol.specs.World.OutputView.{OutputView}
use Rattle.ckpt_codec.specs.Common.{IsPrefix}

-- two lists have the same outputs, and of each the second one has what the first one had, and then more
pub record EachBegins (old new : List OutputView) : Type 0 where
  pub count : length new ≡ length old
  pub begins : (j : ℕ) (output later : OutputView) → slice_get old j ≡ Some output → slice_get new j ≡ Some later
      → (later.channel ≡ output.channel) × IsPrefix output.taken later.taken
