use Rattle.std.proofs.Common.{◌∙◌, ap, arith, refl, ℤ, ◌++◌, ◌∷◌, [], w64, FitsSigned, rules}
use Rattle.std.proofs.lemmas.Int.{to_z-of_z}
use Rattle.output_file.proofs.Lining.{read_more, finds_bad, bad_is_none, to_the_end, so_many}
use Rattle.std.proofs.lemmas.Grind.{common_steps}
use Rattle.output_file.proofs.reading.read_items.Goals as goal

pub returns-in_default-item_of-clause-err : goal.returns-in_default-item_of-clause-err
returns-in_default-item_of-clause-err c =
    let rest = to_the_end c.args.bytes.now c.loop-len.read in
    finds_bad c.args.bytes.now _ _ c.loop-len.items.items c.loop-len.read c.in-Some.len _ c.loop-len.invariant rest
    c.in-Some.ensures.line (so_many c.args.bytes.now _ c.loop-len.read c.in-Some.len rest) c.in-Some.ensures.no_feed
    c.in_default-item_of.ensures.none (omega (arith, c.len.ensures, c.loop-len.items.ok))

pub returns-in_default-item_of-clause-only : goal.returns-in_default-item_of-clause-only
returns-in_default-item_of-clause-only c = λ items tail holds.
    absurd (bad_is_none c.args.bytes.now _ items tail (returns-in_default-item_of-clause-err c) holds)

pub loop-len-preserved : goal.loop-len-preserved
loop-len-preserved c =
    let rest = to_the_end c.args.bytes.now c.loop-len.read in
    let f : FitsSigned w64 c.in-Some-item_of.item = search rules in
    read_more c.args.bytes.now _ _ c.loop-len.items.items _ c.loop-len.read _ c.in-Some.len c.in-Some-item_of.item
    c.loop-len.invariant rest c.in-Some.ensures.line c.in-Some.ensures.some
    (so_many c.args.bytes.now _ c.loop-len.read c.in-Some.len rest) c.in-Some-item_of.ensures.some f
    (c.in_ok-push.ensures.items
    ∙ ap (λ (z : ℤ). c.loop-len.items.items ++ z ∷ []) (to_z-of_z w64 _ f))
    refl

pub returns-clause-ok : goal.returns-clause-ok
returns-clause-ok c = grind (arith, common_steps)
