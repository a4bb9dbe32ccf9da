-- How a node crashes, and how it comes back.
use Rattle.std.specs.Prelude.{◌≤◌, ℕ, nat_lt, not, true, false, [], map, replicate, Option, Some, None}
use Rattle.ckpt_codec.specs.Common.{Network, MAX_COUNT, received_of, sent_of, ImageView, with_epoch, RecordView}
use Rattle.ckpt_codec.specs.Common.{Tentative}
use Rattle.protocol.specs.Node.Layout.{incoming_on, outgoing_on}
use Rattle.protocol.specs.Node.Modes.{is_down, crashed, with_kept}
use Rattle.protocol.specs.Node.NodeView.{NodeView, ModeView, InDoubt, Runs, RunningView, with_mode}
use Rattle.protocol.specs.Node.Plans.{Prospect, becoming, if_due, putting, unless_spent}
use Rattle.protocol.specs.declared.limits.TheConstants.{WINDOW}
use Rattle.protocol.specs.declared.links.Inbox.{Inbox}
use Rattle.protocol.specs.declared.links.Outbox.{Outbox}

-- what a `Crash` comes to: a node that is up goes down, and may be recovered from this round on
abbrev pub crash_prospect : ℕ → NodeView → Prospect
crash_prospect restart node = if_due (not (is_down node.mode)) (becoming (crashed restart node))

-- ---- an image is restored

-- what an image received of each channel is a count
abbrev pub IsRestorable : ImageView → Type 0
IsRestorable image = (c : ℕ) → received_of image c ≤ MAX_COUNT

-- An inbox that goes on behind what an image received of the channel, in this epoch: nothing has come since, and it was
-- told of no epoch.
abbrev pub restored_inbox : ImageView → ℕ → ℕ → Inbox
restored_inbox image epoch channel = record {
  channel = channel;
  window = record { epoch = epoch; next = received_of image channel; held = replicate WINDOW None };
  log = record { base = received_of image channel; items = [] };
  undone = 0;
}

-- an outbox of which nothing is acknowledged, and that says what the image has put on the channel
abbrev pub restored_outbox : ImageView → ℕ → Outbox
restored_outbox image channel = record {
  channel = channel;
  window = record { size = WINDOW; epoch = 0; acknowledged = 0 };
  restored = sent_of image channel;
}

-- what a node has in memory that restored this image, in this epoch
abbrev pub restored_from : Network → ℕ → ImageView → ℕ → RunningView
restored_from net home image epoch = record {
  current = image;
  out = None;
  last = None;
  inboxes = map (restored_inbox image epoch) (incoming_on net home);
  outboxes = map (restored_outbox image) (outgoing_on net home);
  live = None;
}

-- the permanent image of this record
abbrev pub restored_running : Network → ℕ → RecordView → RunningView
restored_running net home kept = restored_from net home kept.permanent kept.epoch

abbrev pub restored_with : Network → ℕ → RecordView → Option Tentative → ModeView
restored_with net home kept None = Runs (restored_running net home kept)
restored_with net home kept (Some held) = InDoubt

-- the mode in which a node with this record comes back: with another's tentative image it waits for the verdict, else
-- it runs from the permanent one
abbrev pub restored_mode : Network → ℕ → RecordView → ModeView
restored_mode net home kept = restored_with net home kept kept.tentative

-- the node in its next epoch, without a tentative image of its own
abbrev pub restored : Network → ℕ → NodeView → NodeView
restored net home node =
    with_mode (restored_mode net home (with_epoch node.kept)) (with_kept (with_epoch node.kept) node)

-- what a `Recover` comes to: a node that is down comes back in its next epoch, if there is one
abbrev pub recover_prospect : Network → ℕ → NodeView → Prospect
recover_prospect net home node =
    if_due (is_down node.mode)
    (unless_spent true (nat_lt node.kept.epoch MAX_COUNT) (putting false (restored net home node)))
