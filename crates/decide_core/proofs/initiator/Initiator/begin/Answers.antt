use Rattle.std.proofs.Common.{◌≡◌, List, Option, length, ap, sym, ◌∙◌, arith}
use Rattle.std.proofs.lemmas.List.{length-map}
use Rattle.kahn_net.specs.Syntax.{network_of}
use Rattle.protocol.specs.Node.LiveView.{QuestionView}
use Rattle.protocol.specs.Node.Needs.{question_on}
use Rattle.decide_core.specs.InitiatorView.{question_view}
use Rattle.decide_core.proofs.Listing.{each_length}
use Rattle.std.proofs.lemmas.Grind.{elements}
use Rattle.decide_core.proofs.initiator.Initiator.begin.Goals as goal

pub invariant_of-result : goal.invariant_of-result
invariant_of-result c =
    let channels = (network_of c.args.net.now.program).channels in
    let few = c.args.net.now.valid.channel_count in
    let long : length c.in_ok-questions_of.field-0.items ≡ length channels =
    sym (length-map c.in_ok-questions_of.field-0.items question_view)
    ∙ (ap (λ (qs : List (Option QuestionView)). length qs) c.in_ok-questions_of.ensures
    ∙ each_length (question_on (network_of c.args.net.now.program) c.args.home c.kept.inside.permanent
    c.args.image.now) 0 (length channels)) in
    omega (arith, few, long)

pub overflow_add-result : goal.overflow_add-result
overflow_add-result c = grind (arith, elements)
