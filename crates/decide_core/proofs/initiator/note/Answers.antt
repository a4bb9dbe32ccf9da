use Rattle.std.specs.Prelude.{slice_get}
use Rattle.std.proofs.lemmas.Option.{slice_get-get_or}
use Rattle.decide_core.proofs.initiator.note.Goals as goal
use Rattle.decide_core.specs.InitiatorView.{answer_view}
use Rattle.decide_core.specs.NoteLaws.{noted}

pub returns-then-place-questions : goal.returns-then-place-questions
returns-then-place-questions c =
    noted c.args.questions.now c.args.place (answer_view c.args.answer) _ c.answered.result
    (slice_get-get_or c.args.questions.now c.args.place _ c.if-place-questions.true) c.answered.ensures
