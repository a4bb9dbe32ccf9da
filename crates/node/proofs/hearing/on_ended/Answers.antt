use Rattle.std.proofs.Common.{◌≡◌, true, ap, subst, sym, ◌∙◌}
use Rattle.protocol.specs.Node.Common.{RecordView, holds}
use Rattle.node.specs.NodeView.{node_view}
use Rattle.node.specs.Planned.{CanDo}
use Rattle.node.proofs.Verdicts.{dropped_fits, fine_unless_held}
use Rattle.std.proofs.Common.{arith}
use Rattle.std.proofs.lemmas.Grind.{elements}
use Rattle.node.proofs.hearing.on_ended.Goals as goal

pub returns-clause-can : goal.returns-clause-can
returns-clause-can c =
    let kept = c.args.kept.now in
    let held : holds c.args.from c.args.number kept.tentative ≡ true =
    ap (λ (r : RecordView). holds c.args.from c.args.number r.tentative) (sym c.kept.view_is)
    ∙ (sym c.holds.ensures ∙ c.if-not-holds.false) in
    subst (CanDo (node_view kept c.args.state.now)) (sym c.putting.ensures.0) (record {
      up = c.requires.up;
      may_be_put = tt;
      fine = fine_unless_held c.args.from c.args.number kept held;
      may_follow = tt;
      fits = λ short room fits. dropped_fits room kept c.requires.bounded fits;
    })

pub returns-then-not-holds-clause-view : goal.returns-then-not-holds-clause-view
returns-then-not-holds-clause-view c = grind (arith, elements)

pub returns-clause-view : goal.returns-clause-view
returns-clause-view c = grind (arith, elements)
