use Rattle.std.proofs.Common.{subst, sym, ◌∙◌}
use Rattle.protocol.specs.Node.Common.{holds}
use Rattle.node.specs.NodeView.{node_view}
use Rattle.node.specs.Planned.{CanDo}
use Rattle.node.proofs.Verdicts.{both_of, dropped_fits, fine_unless_held}
use Rattle.std.proofs.Common.{arith}
use Rattle.std.proofs.lemmas.Grind.{elements}
use Rattle.node.proofs.hearing.on_refused.Goals as goal

pub returns-clause-can : goal.returns-clause-can
returns-clause-can c =
    let kept = c.args.kept.now in
    let held = (both_of _ (holds c.args.home c.args.number kept.tentative)
    (sym c.loses.ensures ∙ c.if-not-loses.false)).1 in
    subst (CanDo (node_view kept c.args.state.now)) (sym c.give_up.ensures.0) (record {
      up = c.requires.up;
      may_be_put = tt;
      fine = fine_unless_held c.args.home c.args.number kept held;
      may_follow = tt;
      fits = λ short room fits. dropped_fits room kept c.requires.bounded fits;
    })

pub returns-clause-view : goal.returns-clause-view
returns-clause-view c = grind (arith, elements)

pub returns-then-not-loses-clause-view : goal.returns-then-not-loses-clause-view
returns-then-not-loses-clause-view c = grind (arith, elements)
