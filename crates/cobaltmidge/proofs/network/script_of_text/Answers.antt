use Rattle.std.proofs.Common.{◌∙◌, ap, refl}
use Rattle.fail_script.specs.declared.fault.ScriptFault.TheVariants.{NoMemory}
use Rattle.cobaltmidge.specs.Errors.{script_error}
use Rattle.cobaltmidge.specs.Texts.{bad_script}
use Rattle.cobaltmidge.proofs.network.script_of_text.Goals as goal

pub returns-in-Err-clause-err : goal.returns-in-Err-clause-err
returns-in-Err-clause-err c = bad_script c.in-Err.fault c.in-Err.ensures.err c.script_error.ensures

pub returns-in-Err-clause-accepted : goal.returns-in-Err-clause-accepted
returns-in-Err-clause-accepted c =
    λ lines good. c.script_error.ensures ∙ ap script_error (c.in-Err.ensures.only lines good)

pub returns-clause-err : goal.returns-clause-err
returns-clause-err c = bad_script NoMemory tt refl
