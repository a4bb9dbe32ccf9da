use Rattle.std.proofs.Common.{arith, refl}
use Rattle.std.proofs.lemmas.Option.{slice_get_read}
use Rattle.folder_status.specs.Endings.{IsRight}
use Rattle.folder_status.proofs.Places.{at_all, one_more}
use Rattle.folder_status.proofs.comparing.first_wrong.Goals as goal

pub returns-then-not-is_right-clause-some : goal.returns-then-not-is_right-clause-some
returns-then-not-is_right-clause-some c =
    let kept = c.args.kept.now in
    let outputs = c.args.outputs.now in
    let less = c.loop-place-test.true in
    record {
      one = c.index-kept-place.result;
      output = c.index-outputs-place.result;
      one_is = slice_get_read kept _ c.loop-place.place _ refl less c.index-kept-place.is;
      output_is = slice_get_read outputs _ c.loop-place.place _ refl (omega (arith, less, c.requires)) c.index-outputs-place.is;
      wrong = λ right. let yes = c.is_right.ensures.1 right in absurd cc;
    }

pub loop-place-preserved : goal.loop-place-preserved
loop-place-preserved c =
    let kept = c.args.kept.now in
    let outputs = c.args.outputs.now in
    let less = c.loop-place-test.true in
    one_more (IsRight c.args.all) kept outputs c.loop-place.place c.index-kept-place.result c.index-outputs-place.result
    (slice_get_read kept _ c.loop-place.place _ refl less c.index-kept-place.is)
    (slice_get_read outputs _ c.loop-place.place _ refl (omega (arith, less, c.requires)) c.index-outputs-place.is)
    (c.is_right.ensures.0 c.if-not-is_right.false) c.loop-place.invariant

pub returns-clause-none : goal.returns-clause-none
returns-clause-none c = at_all (IsRight c.args.all) c.args.kept.now c.args.outputs.now c.loop-place.place (omega (arith, c.loop-place-test.false)) c.loop-place.invariant
