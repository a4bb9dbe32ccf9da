use Rattle.std.proofs.Common.{◌≡◌, true, ap, refl, subst, sym, ◌∙◌}
use Rattle.protocol.specs.Node.Common.{RecordView}
use Rattle.protocol.specs.World.Common.{names}
use Rattle.node.specs.NodeView.{node_view}
use Rattle.node.specs.Planned.{CanDo}
use Rattle.node.proofs.Verdicts.{confirmed_fits, names_same}
use Rattle.std.proofs.Common.{arith}
use Rattle.std.proofs.lemmas.Grind.{elements}
use Rattle.node.proofs.hearing.on_settled.Goals as goal

pub returns-clause-can : goal.returns-clause-can
returns-clause-can c =
    let kept = c.args.kept.now in
    let named : names kept.decisions c.args.number c.args.from ≡ true =
    ap (λ (r : RecordView). names r.decisions c.args.number c.args.from) (sym c.kept.view_is)
    ∙ (ap (λ ds. names ds c.args.number c.args.from) (sym c.as_slice.ensures.value)
    ∙ (sym c.names.ensures ∙ c.if-not-names.false)) in
    subst (CanDo (node_view kept c.args.state.now)) (sym c.putting.ensures.0) (record {
      up = c.requires.up;
      may_be_put = sym (names_same c.args.number c.args.from kept.decisions) ∙ named;
      fine = refl;
      may_follow = tt;
      fits = λ short room fits. confirmed_fits room kept c.requires.bounded fits c.args.number c.args.from;
    })

pub returns-then-not-names-clause-view : goal.returns-then-not-names-clause-view
returns-then-not-names-clause-view c = grind (arith, elements)

pub returns-clause-view : goal.returns-clause-view
returns-clause-view c = grind (arith, elements)
