use Rattle.std.proofs.Common.{rules}
use Rattle.cobaltmidge.proofs.OneMeaning.{none_longer}
use Rattle.cobaltmidge.proofs.grown.have_grown_from.Goals as goal

pub returns-in-Some-clause-changed : goal.returns-in-Some-clause-changed
returns-in-Some-clause-changed c = λ is_false text is.
    none_longer text _ c.args.net.now c.in-Some.before c.args.inputs.now c.as_slice.result.now c.as_slice-in-Some.result.now c.have_grown.result is
    (search rules) (search rules) (search rules) is_false c.have_grown.ensures.1
