use Rattle.std.proofs.Common.{ℕ, Bool, cond, map, sym, ap, ◌∙◌}
use Rattle.std.specs.Prelude.{slice_set}
use Rattle.std.proofs.lemmas.List.{map-set}
use Rattle.protocol.specs.Node.Collecting.{new_question}
use Rattle.decide_core.specs.InitiatorView.{question_view}
use Rattle.decide_core.proofs.initiator.note_need.Goals as goal

pub returns-then-place-questions : goal.returns-then-place-questions
returns-then-place-questions c =
    let before = map question_view c.args.questions.now in
    map-set question_view c.args.questions.now c.from-place.result _
    ∙ (ap (λ (n : ℕ). slice_set before n (new_question c.args.need)) c.from-place.ensures
    ∙ sym (ap (λ (b : Bool). cond b before (slice_set before c.args.need.channel (new_question c.args.need)))
    (sym c.needs_no_question.ensures ∙ c.if-not-needs_no_question.true)))
