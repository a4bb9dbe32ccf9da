use Rattle.std.proofs.Common.{rules, arith, ◌≡◌, ◌≤◌, ◌++◌, ◌∙◌, ◌∷◌, [], Some, length, slice_get, ap, refl, sym, subst, append_assoc, append-nil}
use Rattle.std.specs.Vec.Iter.{into_iter_items}
use Rattle.run_files.specs.Opening.{AreUsed}
use Rattle.run_files.proofs.Going.{goes_still, goes_then, no_items, one_longer, one_within, opened_at, opened_goes, used_more}
use Rattle.std.proofs.lemmas.Grind.{elements}
use Rattle.run_files.proofs.folder.give_back.Goals as goal

pub give_one-requires-clause-held : goal.give_one-requires-clause-held
give_one-requires-clause-held g c κs within = c.loop-outlet.invariant.goes.held _ c.requires.held

pub give_one-requires-clause-opened : goal.give_one-requires-clause-opened
give_one-requires-clause-opened g c κs within =
    opened_at _ _ _ _ _ _ (opened_goes _ _ _ _ _ _ _ c.loop-outlet.invariant.goes c.requires.opened) c.in-Some-nth_of.ensures

pub returns-in_err-give_one-clause-goes : goal.returns-in_err-give_one-clause-goes
returns-in_err-give_one-clause-goes g c = goes_then _ _ _ _ _ c.loop-outlet.invariant.goes c.give_one.ensures.goes

pub loop-outlet-init : goal.loop-outlet-init
loop-outlet-init g c = record { goes = goes_still _ _ _; used = ([], tt, refl, search rules) }

pub overflow_add-next : goal.overflow_add-next
overflow_add-next g c =
    let so_far = c.loop-outlet.invariant.used in
    let within : length c.args.outlets.items ≤ c.args.outlets.cap = search rules in
    omega (arith, c.args.outlets.small, within, one_within _ _ _ _ _ _ so_far.2 c.in-Some.ensures.steps.0 so_far.3)

pub loop-outlet-preserved : goal.loop-outlet-preserved
loop-outlet-preserved g c =
    let so_far = c.loop-outlet.invariant.used in record {
      goes = goes_then _ _ _ _ _ c.loop-outlet.invariant.goes c.give_one.ensures.goes;
      used = (
        so_far.0 ++ c.in-Some.outlet ∷ [],
        used_more _ _ _ _ _ _ _ _ c.give_one.ensures.goes so_far.1
            (subst (λ k. slice_get c.args.opened.now k ≡ Some c.in-Some-nth_of.one.now) so_far.2 c.in-Some-nth_of.ensures)
            c.in_ok-give_one.ensures.used,
        one_longer _ _ _ so_far.2,
        append_assoc so_far.0 (c.in-Some.outlet ∷ []) (into_iter_items c.next.new.self)
            ∙ (ap (λ rest. so_far.0 ++ rest) (sym c.in-Some.ensures.steps.0) ∙ so_far.3),
      );
    }

pub returns-clause-used : goal.returns-clause-used
returns-clause-used g c =
    let so_far = c.loop-outlet.invariant.used in
    let none : length (into_iter_items c.loop-outlet.outlet-iterator) ≡ 0 = grind (arith, elements) in
    subst (λ outlets. AreUsed c.args.opened.now outlets (g.H.Host.asked c.loop-outlet.host))
    (sym (append-nil so_far.0)
    ∙ (ap (λ rest. so_far.0 ++ rest) (sym (no_items (into_iter_items c.loop-outlet.outlet-iterator) none)) ∙ so_far.3))
    so_far.1
