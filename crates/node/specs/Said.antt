-- What a node says to a packet, and what it runs from once it was in doubt.
use Rattle.std.specs.Prelude.{◌≡◌, ◌<◌, ◌≤◌, ◌&&◌, ◌==◌, ℕ, true, false, if◌then◌else◌, List, length, Option, Some, None}
use Rattle.protocol.specs.Node.Common.{ImageView, Tentative, MAX_RETAINED_ITEMS, MAX_NODES, MAX_DECISIONS}
use Rattle.protocol.specs.Node.Common.{live_in, LiveView, Network, NodeView, ModeView, Down, InDoubt, Runs}
use Rattle.protocol.specs.Node.Common.{RunningView, may_decide}
use Rattle.ckpt_codec.specs.SizeLaws.{IsRecordWithin}
use Rattle.protocol.specs.World.Common.{has_node}
use Rattle.protocol.specs.Node.Recovering.{restored_from}
use Rattle.protocol.specs.declared.links.Inbox.{Inbox}
use Rattle.protocol.specs.declared.outcome.Outcome.TheVariants as outcome

-- the image that is held, of this initiator's checkpoint of this number
abbrev pub held_image : ℕ → ℕ → Option Tentative → Option ImageView
held_image initiator number None = None
held_image initiator number (Some held) =
    if (held.initiator == initiator) && (held.number == number) then Some held.image else None

-- what a node runs with that was in doubt, where it restores this image in this epoch
abbrev pub restored_if_doubtful : Network → ℕ → ModeView → ImageView → ℕ → Option RunningView
restored_if_doubtful net home Down image epoch = None
restored_if_doubtful net home InDoubt image epoch = Some (restored_from net home image epoch)
restored_if_doubtful net home (Runs running) image epoch = None

-- where a node stands that runs
abbrev pub current_in : ModeView → Option ImageView
current_in Down = None
current_in InDoubt = None
current_in (Runs running) = Some running.current

-- what came of each channel from another node, of one that runs
abbrev pub inboxes_in : ModeView → Option (List Inbox)
inboxes_in Down = None
inboxes_in InDoubt = None
inboxes_in (Runs running) = Some running.inboxes

-- Where a checkpoint is decided for which answers are collected, its decision names other nodes, of no more than there may
-- be, there is room for it, and the record is within the bounds in which it fits.
pub record MayBeDecided (number : ℕ) (node : NodeView) : Type 0 where
  pub others : (live : LiveView) → live_in node.mode ≡ Some live → has_node number live.takers ≡ false
  pub room : may_decide number node.kept (live_in node.mode) ≡ true → length node.kept.decisions < MAX_DECISIONS
  pub few : length node.kept.highest ≤ MAX_NODES
  pub bounded : IsRecordWithin MAX_RETAINED_ITEMS node.kept
