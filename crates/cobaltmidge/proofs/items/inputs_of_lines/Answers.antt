use Rattle.std.proofs.Common.{◌∙◌, ap}
use Rattle.cobaltmidge.specs.Errors.{inputs_error}
use Rattle.cobaltmidge.specs.Texts.{bad_items}
use Rattle.cobaltmidge.proofs.items.inputs_of_lines.Goals as goal

pub returns-in-Err-clause-err : goal.returns-in-Err-clause-err
returns-in-Err-clause-err c = bad_items c.in-Err.fault c.in-Err.ensures.fault c.inputs_error.ensures

pub returns-in-Err-clause-accepted : goal.returns-in-Err-clause-accepted
returns-in-Err-clause-accepted c =
    λ lists bound. c.inputs_error.ensures ∙ ap inputs_error (c.in-Err.ensures.accepted lists bound)
