-- A node hears that another restored an image: where it is ahead of what that one has put, it goes back to its own
-- permanent image.
use Rattle.std.specs.Prelude.{ℕ, ◌==◌, nat_lt, false, if◌then◌else◌, List, [], length, map, replicate, find, Option, Some, None}
use Rattle.ckpt_codec.specs.Common.{MAX_COUNT, received_of, sent_of, ImageView, with_epoch, RecordView, Tentative}
use Rattle.window_link.specs.Windows.{sender_reset}
use Rattle.protocol.specs.Node.Modes.{next_number}
use Rattle.protocol.specs.Node.NodeView.{NodeView, ModeView, Down, InDoubt, Runs, RunningView, on_mode, on_running}
use Rattle.protocol.specs.Node.Plans.{Prospect, becoming, putting}
use Rattle.protocol.specs.declared.links.Inbox.{Inbox}
use Rattle.protocol.specs.declared.links.Outbox.{Outbox}

-- ---- the ends of channels

-- An inbox once this epoch of a channel's sender was handled: it is noted where the inbox is of that channel.
abbrev pub handled : ℕ → ℕ → Inbox → Inbox
handled channel epoch inbox = record {
  channel = inbox.channel;
  window = inbox.window;
  log = inbox.log;
  undone = if inbox.channel == channel then epoch else inbox.undone;
}

abbrev pub handled_at : ℕ → ℕ → List Inbox → List Inbox
handled_at channel epoch inboxes = map (handled channel epoch) inboxes

-- an inbox goes on behind what an image received of the channel, in this epoch; of what it was told it forgets nothing
abbrev pub inbox_set_back : ImageView → ℕ → Inbox → Inbox
inbox_set_back image epoch inbox = record {
  channel = inbox.channel;
  window = record {
    epoch = epoch;
    next = received_of image inbox.channel;
    held = replicate (length inbox.window.held) None;
  };
  log = record { base = received_of image inbox.channel; items = [] };
  undone = inbox.undone;
}

-- of an outbox nothing is acknowledged then, and it says what the image has put
abbrev pub outbox_set_back : ImageView → Outbox → Outbox
outbox_set_back image outbox = record {
  channel = outbox.channel;
  window = sender_reset outbox.window;
  restored = sent_of image outbox.channel;
}

-- ---- what a node does

-- It passes over what it is told; or notes the epoch; or goes back.
pub data UndoneAnswer : Type 0 where
  PassesOver : UndoneAnswer
  Notes : UndoneAnswer
  GoesBack : UndoneAnswer

-- The sender of this inbox's channel had put so many items when it restored an image, in this epoch. That is news where
-- the end wasn't told of the epoch; and the end is ahead where more came to it. A node whose own next epoch would pass
-- the greatest number passes over that.
abbrev pub answer_at : ℕ → ℕ → ℕ → Option Inbox → UndoneAnswer
answer_at epoch sent own None = PassesOver
answer_at epoch sent own (Some inbox) =
    if nat_lt inbox.undone epoch
    then (if nat_lt sent inbox.window.next then (if nat_lt own MAX_COUNT then GoesBack else PassesOver) else Notes)
    else PassesOver

-- the inbox of this channel
abbrev pub inbox_of : List Inbox → ℕ → Option Inbox
inbox_of inboxes channel = find (λ (inbox : Inbox). inbox.channel == channel) inboxes

-- a node that holds an image passes over it (it is told again), and one that doesn't run has nothing to undo
abbrev pub answer_with : ℕ → ℕ → ℕ → ℕ → Option Tentative → ModeView → UndoneAnswer
answer_with channel epoch sent own (Some held) mode = PassesOver
answer_with channel epoch sent own None Down = PassesOver
answer_with channel epoch sent own None InDoubt = PassesOver
answer_with channel epoch sent own None (Runs running) = answer_at epoch sent own (inbox_of running.inboxes channel)

-- what a node does that is told that the sender of a channel restored an image: nothing, it notes the epoch, or it
-- goes back to its permanent image
abbrev pub answer_to_undone : ℕ → ℕ → ℕ → RecordView → ModeView → UndoneAnswer
answer_to_undone channel epoch sent kept mode = answer_with channel epoch sent kept.epoch kept.tentative mode

-- ---- the event

-- the epoch is noted
abbrev pub noting_undone : ℕ → ℕ → RunningView → RunningView
noting_undone channel epoch running = record running { inboxes = handled_at channel epoch running.inboxes }

-- what a node has in memory that goes back to an image, in this epoch of its own, and noted that of a channel's sender
abbrev pub set_back_from : ImageView → ℕ → ℕ → ℕ → RunningView → RunningView
set_back_from image own channel epoch running = record {
  current = image;
  out = None;
  last = None;
  inboxes = map (inbox_set_back image own) (handled_at channel epoch running.inboxes);
  outboxes = map (outbox_set_back image) running.outboxes;
  live = None;
}

-- to the permanent image of this record
abbrev pub set_back_to : RecordView → ℕ → ℕ → RunningView → RunningView
set_back_to kept channel epoch running = set_back_from kept.permanent kept.epoch channel epoch running

-- a node that went back to its permanent image, in its next epoch, with no job out any more
abbrev pub gone_back : ℕ → ℕ → NodeView → NodeView
gone_back channel epoch node = record {
  kept = with_epoch node.kept;
  version = next_number node.version;
  restart = node.restart;
  armed = node.armed;
  mode = on_mode (set_back_to (with_epoch node.kept) channel epoch) node.mode;
}

abbrev pub undone_by : ℕ → ℕ → UndoneAnswer → NodeView → Prospect
undone_by channel epoch PassesOver node = becoming node
undone_by channel epoch Notes node = becoming (on_running (noting_undone channel epoch) node)
undone_by channel epoch GoesBack node = putting false (gone_back channel epoch node)

-- what becomes of a node that is told that the sender of a channel restored an image, and how many items that image
-- had put
abbrev pub undone_prospect : ℕ → ℕ → ℕ → NodeView → Prospect
undone_prospect channel epoch sent node =
    undone_by channel epoch (answer_to_undone channel epoch sent node.kept node.mode) node
