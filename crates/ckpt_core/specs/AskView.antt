-- A question and its answer, in the words of checkpoints that several nodes take together.
use Rattle.std.specs.Prelude.{[], Option, Some, None}
use Rattle.record.specs.ImageView.{ImageView}
use Rattle.protocol.specs.Node.Answering.{AskAnswer as Answered}
use Rattle.protocol.specs.Node.Answering as answered
use Rattle.protocol.specs.Node.NodeView.{ModeView, InDoubt, Runs}
use Rattle.ckpt_core.specs.declared.asking.AskAnswer.{AskAnswer}
use Rattle.ckpt_core.specs.declared.asking.AskAnswer.TheVariants as answer

abbrev pub answer_view : AskAnswer → Answered
answer_view answer.Silent = answered.Silent
answer_view answer.CoveredBefore = answered.CoveredBefore
answer_view answer.TookBefore = answered.TookBefore
answer_view answer.TakesNow = answered.TakesNow
answer_view (answer.Declines reason) = answered.Declines reason

-- the mode of a node that runs with this image, or is in doubt. (An answer depends on nothing else that a node has in
-- memory.)
abbrev pub mode_with : Option ImageView → ModeView
mode_with None = InDoubt
mode_with (Some image) =
    Runs (record { current = image; out = None; last = None; inboxes = []; outboxes = []; live = None })
