use Rattle.std.proofs.lemmas.Result.{err_from_is_err_and}
use Rattle.kahn_program.proofs.Causes.{stopped_by_files}
use Rattle.std.proofs.lemmas.Grind.{elements}
use Rattle.std.proofs.Common.{arith}
use Rattle.kahn_program.proofs.program.open_if_asked.Goals as goal

pub returns-in_err-open_history-in-Some-clause-cause : goal.returns-in_err-open_history-in-Some-clause-cause
returns-in_err-open_history-in-Some-clause-cause g c =
    let p = err_from_is_err_and c.from_residual.result c.from_residual.ensures.1 in
    rw p.1 (stopped_by_files _ _ _ _ _ p.2 c.in_err-open_history-in-Some.ensures.cause)

pub returns-in-None-clause-goes : goal.returns-in-None-clause-goes
returns-in-None-clause-goes g c = grind (arith, elements)
