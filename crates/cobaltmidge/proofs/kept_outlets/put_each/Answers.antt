use Rattle.std.proofs.Common.{rules, ◌≡◌, ◌++◌, ◌∙◌, length, [], ◌∷◌, ap, sym, subst, append_assoc, append-nil}
use Rattle.std.proofs.lemmas.Result.{err_from_is_err_and}
use Rattle.std.specs.Vec.Iter.{into_iter_items}
use Rattle.output_file.specs.Output.{taken_of}
use Rattle.cobaltmidge.specs.KeptOutlets.{AreInFiles, taken_streams}
use Rattle.cobaltmidge.proofs.Filed.{no_items, one_at_fault, one_more_filed}
use Rattle.cobaltmidge.proofs.kept_outlets.put_each.Goals as goal

pub loop-output-init : goal.loop-output-init
loop-output-init g c = ([], subst (λ items. AreInFiles items []) (sym c.requires) tt, search rules)

pub loop-output-preserved : goal.loop-output-preserved
loop-output-preserved g c =
    let so_far = c.loop-output.invariant in
    let stream = taken_of c.in-Some.output.outlet in
    let rest = taken_streams taken_of (into_iter_items c.next.new.self) in (
      so_far.0 ++ stream ∷ [],
      subst (λ outlets. AreInFiles outlets (so_far.0 ++ stream ∷ [])) (sym c.in-Ok.ensures.items)
          (one_more_filed c.loop-output.outlets.items so_far.0 c.put_all-put.new.outlet stream so_far.1
          c.in_ok-put.ensures.kept),
      append_assoc so_far.0 (stream ∷ []) rest
          ∙ (ap (λ outputs. so_far.0 ++ taken_streams taken_of outputs) (sym c.in-Some.ensures.steps.0) ∙ so_far.2),
    )

pub returns-clause-kept : goal.returns-clause-kept
returns-clause-kept g c =
    let so_far = c.loop-output.invariant in
    let none : length (into_iter_items c.loop-output.output-iterator) ≡ 0 = search rules in
    subst (AreInFiles c.loop-output.outlets.items)
    (sym (append-nil so_far.0)
    ∙ (ap (λ outputs. so_far.0 ++ taken_streams taken_of outputs)
    (sym (no_items (into_iter_items c.loop-output.output-iterator) none)) ∙ so_far.2))
    so_far.1

pub returns-in_err-put-clause-cause : goal.returns-in_err-put-clause-cause
returns-in_err-put-clause-cause g c =
    let p = err_from_is_err_and c.from_residual.result c.from_residual.ensures.1 in
    rw (p.1, p.2) (one_at_fault c.loop-output.outlets.items c.put_all-put.new.outlet _ _ c.in-Ok.ensures.items c.in_err-put.ensures.cause)
