-- What a node has now, and the record with that as a tentative image, are within the bounds in which a record fits
-- `MAX_RECORD_BYTES`.
use Rattle.std.proofs.Common.{ℕ, ℤ, List}
use Rattle.std.proofs.Math.Logic.{∥∥₁_map}
use Rattle.protocol.specs.Node.Common.{Network, IsValid, MAX_RETAINED_ITEMS, RunningNode, with_tentative}
use Rattle.ckpt_codec.specs.SizeLaws.{IsRecordWithin, within_tentative}
use Rattle.protocol_laws.specs.Node.SizeLaws.{current_within}
use Rattle.protocol.specs.World.Common.{OutputView, IsSound}

module _ (net : Network) (inputs : List (List ℤ)) (valid : IsValid net) where
  -- the record of a node that runs with what it has now, as an image of whatever instance
  pub taken_bounded : (outputs : List OutputView) (x n : ℕ) (node : RunningNode) → IsSound net inputs node outputs
      → IsRecordWithin MAX_RETAINED_ITEMS node.kept
      → IsRecordWithin MAX_RETAINED_ITEMS (with_tentative x n node.current node.kept)
  taken_bounded outputs x n node sound kept =
      within_tentative MAX_RETAINED_ITEMS node.kept kept x n node.current
      (current_within net node.kept.node inputs node valid sound.kept.laid_out sound.kept.logs
      (∥∥₁_map sound.come (λ come. come.reached)))
