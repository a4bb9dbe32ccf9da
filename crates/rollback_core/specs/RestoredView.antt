-- What a node restored, and what it does that is told so, in the words of nodes.
use Rattle.std.specs.Prelude.{[], List, Option, Some, None}
use Rattle.protocol.specs.Node.GoingBack.{UndoneAnswer as Answered}
use Rattle.protocol.specs.Node.GoingBack as answered
use Rattle.protocol.specs.Node.NodeView.{ModeView, InDoubt, Runs, RunningView}
use Rattle.protocol.specs.declared.links.Inbox.{Inbox}
use Rattle.rollback_core.specs.declared.restoring.Recovery.{Recovery}
use Rattle.rollback_core.specs.declared.restoring.Recovery.TheVariants as recovery
use Rattle.rollback_core.specs.declared.restoring.Restored.{Restored}
use Rattle.rollback_core.specs.declared.undoing.UndoneAnswer.{UndoneAnswer}
use Rattle.rollback_core.specs.declared.undoing.UndoneAnswer.TheVariants as answer

abbrev pub restored_view : Restored → RunningView
restored_view restored = record {
  current = restored.current;
  out = None;
  last = None;
  inboxes = restored.inboxes.items;
  outboxes = restored.outboxes.items;
  live = None;
}

abbrev pub recovery_mode : Recovery → ModeView
recovery_mode (recovery.Running restored) = Runs (restored_view restored)
recovery_mode recovery.InDoubt = InDoubt

abbrev pub answer_view : UndoneAnswer → Answered
answer_view answer.PassesOver = answered.PassesOver
answer_view answer.Notes = answered.Notes
answer_view answer.GoesBack = answered.GoesBack

-- the mode of a node that runs with these inboxes, or doesn't run. (What it does depends on nothing else that it has in
-- memory.)
abbrev pub mode_with : Option (List Inbox) → ModeView
mode_with None = InDoubt
mode_with (Some inboxes) = Runs
    (record {
      current = record { processes = []; ends = [] };
      out = None;
      last = None;
      inboxes = inboxes;
      outboxes = [];
      live = None;
    })
