use Rattle.std.proofs.Common.{◌≡◌, drop, map}
use Rattle.protocol.specs.Node.Verdicts.{all_answered}
use Rattle.decide_core.specs.InitiatorView.{question_view}
use Rattle.decide_core.proofs.initiator.Initiator.is_answered.Given as goal

abbrev pub invariant-loop-question : goal.invariant-loop-question
invariant-loop-question l =
    all_answered (map question_view (drop l.question-index l.questions))
    ≡ all_answered (map question_view l.questions)
