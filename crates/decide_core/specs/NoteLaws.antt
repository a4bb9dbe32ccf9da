-- An answer is noted in what is collected.
use Rattle.std.proofs.Common.{◌≡◌, ℕ, List, map, Option, Some, option_map, sym, ap, ◌∙◌}
use Rattle.std.specs.Prelude.{slice_get, slice_set}
use Rattle.std.proofs.lemmas.List.{map-set}
use Rattle.std.proofs.lemmas.Option.{slice_get-map}
use Rattle.recovery_line.specs.Nodes.{Answer as Answered}
use Rattle.protocol.specs.Node.Collecting.{answered_by, replaced_at, with_answer}
use Rattle.decide_core.specs.InitiatorView.{question_view}
use Rattle.decide_core.specs.declared.initiator.Asked.{Asked}

pub noted : (questions : List (Option Asked)) (place : ℕ) (answer : Answered) (question now : Option Asked)
    → slice_get questions place ≡ Some question → question_view now ≡ answered_by answer (question_view question)
    → map question_view (slice_set questions place now) ≡ with_answer answer place (map question_view questions)
noted questions place answer question now there is =
    map-set question_view questions place now
    ∙ (ap (slice_set (map question_view questions) place) is
    ∙ sym (ap (replaced_at (answered_by answer) place (map question_view questions))
    (slice_get-map question_view questions place ∙ ap (option_map question_view) there)))
