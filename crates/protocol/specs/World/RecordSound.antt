-- What is true of a node's record with its outputs, in whatever mode the node is: it can start again from it.
use Rattle.std.specs.Prelude.{◌≡◌, ℕ, ◌≤◌, ℤ, List, map, length, Some, slice_get}
use Rattle.ckpt_codec.specs.Common.{IsPrefix, Network, approximation, MAX_COUNT, Channel, Process, sent_of, ImageView}
use Rattle.ckpt_codec.specs.Common.{RecordView, Tentative}
use Rattle.kahn_net.specs.Common.{sent_on}
use Rattle.record.specs.Common.{base_of}
use Rattle.ckpt_codec.specs.SizeLaws.{IsRecordWithin}
use Rattle.ckpt_codec.specs.declared.lengths.TheConstants.{MAX_RETAINED_ITEMS}
use Rattle.protocol.specs.Node.Reached.{ImageStands, IsAsFar, IsLaidOut, CountsAreWithin, LogsAreWithin, acts_of}
use Rattle.protocol.specs.Node.Starting.{IsBehind}
use Rattle.protocol.specs.World.OutputView.{OutputView}
use Rattle.protocol.specs.World.Sound.{outputs_on}

-- an image has the processes and ends of its node, no more was received than there is, its logs are within their
-- limits, and those of outputs go back to what has left
pub record ImageIsSound (net : Network) (home : ℕ) (inputs : List (List ℤ)) (image : ImageView)
    (outputs : List OutputView) : Type 0 where
  pub laid_out : IsLaidOut net home image
  pub counts : CountsAreWithin net inputs image
  pub logs : LogsAreWithin image
  pub no_gap : (j : ℕ) (output : OutputView) → slice_get outputs j ≡ Some output
      → base_of image output.channel ≤ length output.taken

-- an image has put all that has left
abbrev pub CoversAll : ImageView → List OutputView → Type 0
CoversAll image outputs =
    (j : ℕ) (output : OutputView) → slice_get outputs j ≡ Some output
    → length output.taken ≤ sent_of image output.channel

-- The images of a record stand on one approximation of the histories, the tentative one behind the permanent one, and
-- what has left is a beginning of what was put up to the permanent one.
pub record RecordHasCome (net : Network) (inputs : List (List ℤ)) (kept : RecordView)
    (outputs : List OutputView) : Type 0 where
  pub n : ℕ
  pub permanent_acts : ℕ → ℕ
  pub held_acts : ℕ → ℕ
  pub permanent : ImageStands net (approximation net inputs n) permanent_acts kept.permanent
  pub held : (tentative : Tentative) → kept.tentative ≡ Some tentative
      → ImageStands net (approximation net inputs n) held_acts tentative.image
  pub held_after : IsAsFar permanent_acts held_acts
  pub released : (j p : ℕ) (output : OutputView) (channel : Channel) → slice_get outputs j ≡ Some output
      → slice_get net.channels output.channel ≡ Some channel → channel.producer ≡ Process p
      → IsPrefix output.taken (sent_on output.channel (acts_of net (approximation net inputs n) permanent_acts p))

-- A node can start again from this record. There is an outlet for each output of the record's node, in order. Its
-- images are laid out and stand on one approximation, and the tentative one isn't behind the permanent one, which
-- covers what has left. The epoch is a count, and the record is within the bounds in which it fits
-- `MAX_RECORD_BYTES`.
pub record RecordIsSound (net : Network) (inputs : List (List ℤ)) (kept : RecordView)
    (outputs : List OutputView) : Type 0 where
  pub listed : map (λ (output : OutputView). output.channel) outputs ≡ outputs_on net kept.node
  pub permanent : ImageIsSound net kept.node inputs kept.permanent outputs
  pub held : (tentative : Tentative) → kept.tentative ≡ Some tentative
      → ImageIsSound net kept.node inputs tentative.image outputs
  pub ahead : (tentative : Tentative) → kept.tentative ≡ Some tentative → IsBehind kept.permanent tentative.image
  pub covered : CoversAll kept.permanent outputs
  pub epoch : kept.epoch ≤ MAX_COUNT
  pub bounded : IsRecordWithin MAX_RETAINED_ITEMS kept
  pub come : ∥ RecordHasCome net inputs kept outputs ∥₁
