-- A node without pointers, its store aside.
use Rattle.std.specs.Prelude.{ℕ, List, Option, Some, None}
use Rattle.ckpt_codec.specs.Common.{ImageView, RecordView}
use Rattle.protocol.specs.Node.JobView.{JobView}
use Rattle.protocol.specs.Node.LiveView.{LiveView}
use Rattle.protocol.specs.declared.armed_restart.ArmedRestart.{ArmedRestart}
use Rattle.protocol.specs.declared.links.Inbox.{Inbox}
use Rattle.protocol.specs.declared.links.Outbox.{Outbox}

-- what a node has in memory while it runs: where it stands, the job that is out, the process to which the last job was
-- granted, its ends of channels from other nodes and to them, and the checkpoint for which it collects answers
pub record RunningView : Type 0 where
  pub current : ImageView
  pub out : Option JobView
  pub last : Option ℕ
  pub inboxes : List Inbox
  pub outboxes : List Outbox
  pub live : Option LiveView

-- A node's mode: it is down, and has no more than its record; or it is in doubt, as it holds another's tentative
-- image and waits for the verdict; or it runs.
pub data ModeView : Type 0 where
  Down : ModeView
  InDoubt : ModeView
  Runs : (running : RunningView) → ModeView

-- A node: its mode, and what it keeps over a crash. That is its record, its version, the round from which it may be
-- recovered, and how long each fault that is armed on its disk keeps it down, in the order of arming.
pub record NodeView : Type 0 where
  pub kept : RecordView
  pub version : ℕ
  pub restart : ℕ
  pub armed : List ArmedRestart
  pub mode : ModeView

-- a node that runs, all in one but for answers that it collects
pub record RunningNode : Type 0 where
  pub kept : RecordView
  pub version : ℕ
  pub current : ImageView
  pub out : Option JobView
  pub last : Option ℕ
  pub inboxes : List Inbox
  pub outboxes : List Outbox

abbrev pub running_node : RecordView → ℕ → RunningView → RunningNode
running_node kept version running =
    record {
      kept = kept;
      version = version;
      current = running.current;
      out = running.out;
      last =
          running.last;
      inboxes = running.inboxes;
      outboxes = running.outboxes;
    }

abbrev pub running_in : RecordView → ℕ → ModeView → Option RunningNode
running_in kept version Down = None
running_in kept version InDoubt = None
running_in kept version (Runs running) = Some (running_node kept version running)

-- the node, if it runs
abbrev pub running_of : NodeView → Option RunningNode
running_of node = running_in node.kept node.version node.mode

-- the mode after this change of what the node has in memory, if it runs
abbrev pub on_mode : (RunningView → RunningView) → ModeView → ModeView
on_mode change Down = Down
on_mode change InDoubt = InDoubt
on_mode change (Runs running) = Runs (change running)

-- the node in this mode
abbrev pub with_mode : ModeView → NodeView → NodeView
with_mode mode node = record node { mode = mode }

-- the node after this change, if it runs; else as it is
abbrev pub on_running : (RunningView → RunningView) → NodeView → NodeView
on_running change node = with_mode (on_mode change node.mode) node
