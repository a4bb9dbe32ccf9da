use Rattle.std.proofs.Common.{◌≡◌, ◌==◌, ◌&&◌, Bool, true, false, cond, ℕ, List, Some, ap, refl, subst, sym, ◌∙◌}
use Rattle.protocol.specs.Node.Common.{Need, Network, network_of, RecordView, holds, GivesUp, Ignores, Joins}
use Rattle.protocol.specs.Node.Common.{answer_to_took, was_asked, LiveView}
use Rattle.protocol.specs.Node.Collecting.{are_met}
use Rattle.decide_core.specs.InitiatorView.{took_view}
use Rattle.node.specs.NodeView.{node_view}
use Rattle.node.specs.Planned.{CanDo}
use Rattle.node.proofs.Verdicts.{dropped_fits, fine_unless_held}
use Rattle.std.proofs.Common.{arith}
use Rattle.std.proofs.lemmas.Grind.{elements}
use Rattle.node.proofs.hearing.on_took.Goals as goal

-- a checkpoint is given up only where its image is held
gives_up : (net : Network) (home number channel : ℕ) (needs : List Need) (kept : RecordView) (live : LiveView)
    → answer_to_took net home number channel needs kept (Some live) ≡ GivesUp → holds home number kept.tentative ≡ true
gives_up net home number channel needs kept live is =
    at (live.number == number) (was_asked channel live.questions) (holds home number kept.tentative)
    (are_met net home needs kept.tentative) is
  where
    at : (same asked held met : Bool) → cond (same && (asked && held)) (cond met Joins GivesUp) Ignores ≡ GivesUp
        → held ≡ true
    at false asked held met is = absurd (cc)
    at true false held met is = absurd (cc)
    at true true false met is = absurd (cc)
    at true true true met is = refl

pub returns-in-GivesUp-clause-can : goal.returns-in-GivesUp-clause-can
returns-in-GivesUp-clause-can c =
    let net = network_of c.args.net.now.program in
    let home = c.args.home in
    let number = c.args.number in
    let channel = c.args.channel in
    let kept = c.args.kept.now in
    let live = c.in-Some.live.now in
    let answer : answer_to_took net home number channel c.as_slice-needs.result.now kept (Some live) ≡ GivesUp =
    sym c.answer_to_took.ensures ∙ ap took_view c.in-GivesUp.is in
    let held = gives_up net home number channel c.as_slice-needs.result.now kept live answer in
    subst (CanDo (node_view kept c.args.state.now)) (sym c.give_up.ensures.0) (record {
      up = c.requires.up;
      may_be_put = tt;
      fine = fine_unless_held home number kept held;
      may_follow = tt;
      fits = λ short room fits. dropped_fits room kept c.requires.bounded fits;
    })

pub returns-in-Ignores-clause-view : goal.returns-in-Ignores-clause-view
returns-in-Ignores-clause-view c = grind (arith, elements)

pub returns-in_ok-joined-in-Joins-clause-view : goal.returns-in_ok-joined-in-Joins-clause-view
returns-in_ok-joined-in-Joins-clause-view c = grind (arith, elements)

pub returns-in_default-clause-view : goal.returns-in_default-clause-view
returns-in_default-clause-view c = grind (arith, elements)

pub returns-in-GivesUp-clause-view : goal.returns-in-GivesUp-clause-view
returns-in-GivesUp-clause-view c = grind (arith, elements)
