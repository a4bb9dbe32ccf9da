use Rattle.std.proofs.Common.{◌∙◌, ap, not, nat_eq}
use Rattle.std.specs.Cmp.Lexicographic.{pointwise}
use Rattle.fail_script.specs.Reading.{without_zeros}
use Rattle.fail_script.proofs.Apart.{told_apart}
use Rattle.fail_script.proofs.numbers.are_apart.Goals as goal

pub returns : goal.returns
returns c =
    c.ne.ensures
    ∙ ap (λ xs. not (pointwise nat_eq xs c.without_zeros-2.result.now)) c.without_zeros.ensures
    ∙ ap (λ ys. not (pointwise nat_eq (without_zeros c.args.one.now) ys)) c.without_zeros-2.ensures
    ∙ ap not (told_apart c.args.one.now c.args.other.now c.requires.one c.requires.other)
