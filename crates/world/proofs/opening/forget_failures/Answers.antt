use Rattle.std.proofs.Common.{rules, ap, sym, ◌∙◌}
use Rattle.record.specs.Laws.Walks.{changed_next}
use Rattle.station.specs.OutputView.{fresh}
use Rattle.std.proofs.Common.{arith}
use Rattle.std.proofs.lemmas.Grind.{common_steps}
use Rattle.world.proofs.opening.forget_failures.Goals as goal

pub loop-output-preserved : goal.loop-output-preserved
loop-output-preserved g c =
    changed_next fresh _ _ _ c.output-item.result _ c.loop-output.invariant (search rules) c.output-item.is
    (c.forget_failure.ensures ∙ ap fresh (sym c.output-item.is))

pub returns : goal.returns
returns g c = grind (arith, common_steps)

pub offset_bounds-output-items-output-index : goal.offset_bounds-output-items-output-index
offset_bounds-output-items-output-index g c = grind (arith, common_steps)
