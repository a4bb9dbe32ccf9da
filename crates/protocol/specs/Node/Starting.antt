-- A node's record with what the node has now as a tentative image of its own, and the order of a node's images.
use Rattle.std.specs.Prelude.{◌≡◌, ℕ, ◌+◌, ◌≤◌, Option, Some, None}
use Rattle.ckpt_codec.specs.Common.{ImageView, received_of, sent_of, RecordView, highest_seen, with_tentative}
use Rattle.ckpt_codec.specs.Common.{Tentative}
use Rattle.record.specs.Common.{base_of}
use Rattle.ckpt_store.specs.Spelling.{IsLike}
use Rattle.protocol.specs.Node.NodeView.{NodeView, RunningNode, running_of}

-- the record with this image as a tentative one of the node's own, under its next number
abbrev pub with_own : ℕ → ImageView → RecordView → RecordView
with_own node image kept = with_tentative node (highest_seen node kept + 1) image kept

abbrev pub own_at : ℕ → RecordView → Option RunningNode → RecordView
own_at number kept None = kept
own_at number kept (Some node) = with_own number node.current node.kept

-- the same with what the node has now
abbrev pub with_own_now : ℕ → NodeView → RecordView
with_own_now number node = own_at number node.kept (running_of node)

-- No count of one image is above that of a later one: how many items were received from a channel, how many were put
-- there before its log begins, and how many by now.
pub record IsBehind (image later : ImageView) : Type 0 where
  pub received : (channel : ℕ) → received_of image channel ≤ received_of later channel
  pub base : (channel : ℕ) → base_of image channel ≤ base_of later channel
  pub sent : (channel : ℕ) → sent_of image channel ≤ sent_of later channel

-- the images of a node are one after another: the permanent one, the tentative one if there is one, and what it has now
pub record AreInOrder (kept : RecordView) (current : ImageView) : Type 0 where
  pub current_ahead : IsBehind kept.permanent current
  pub held_ahead : (held : Tentative) → kept.tentative ≡ Some held → IsBehind kept.permanent held.image
  pub held_behind : (held : Tentative) → kept.tentative ≡ Some held → IsBehind held.image current

abbrev pub IsLikeAt : RecordView → Option RunningNode → Type 0
IsLikeAt kept None = Unit {0}
IsLikeAt kept (Some node) = IsLike kept.permanent node.current

-- what a node has now, if it runs, may be written beside its permanent image
abbrev pub IsLikeNow : NodeView → Type 0
IsLikeNow node = IsLikeAt node.kept (running_of node)
