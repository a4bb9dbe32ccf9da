use Rattle.kahn_program.specs.Readings.{bad_script}
use Rattle.kahn_program.proofs.reading.script_of_text.Goals as goal

pub returns-in-Err-clause-err : goal.returns-in-Err-clause-err
returns-in-Err-clause-err c = bad_script c.in-Err.fault c.in-Err.ensures.err c.script_failure.ensures
