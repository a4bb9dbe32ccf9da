use Rattle.std.proofs.Common.{ℕ, List, sym, subst}
use Rattle.std.proofs.lemmas.Result.{IfErr-weaker, err_from_is_err_and}
use Rattle.cobaltmidge.specs.Texts.{IsTextOfInputs}
use Rattle.kahn_program.specs.Readings.{IsInputsFailure, IsInputsTextFailure, inputs_not_text, inputs_refused}
use Rattle.kahn_program.proofs.reading.read_inputs.Goals as goal

pub returns-in_err-text-clause-err : goal.returns-in_err-text-clause-err
returns-in_err-text-clause-err c =
    let p = err_from_is_err_and c.from_residual.result c.from_residual.ensures.1 in
    rw (p.1, p.2) (inputs_not_text c.in_err-text.ensures.err)

pub returns-in_err-text-clause-accepted : goal.returns-in_err-text-clause-accepted
returns-in_err-text-clause-accepted c = λ utf8 good. absurd (c.in_err-text.ensures.err.1 utf8)

pub returns-clause-err : goal.returns-clause-err
returns-clause-err c =
    IfErr-weaker c.inputs_of_text.result (IsInputsTextFailure c.args.net.now c.in_ok-text.text.now)
    (IsInputsFailure c.args.net.now c.args.bytes.now)
    (λ failure bad. inputs_refused (subst (λ (bytes : List ℕ). IsInputsTextFailure c.args.net.now bytes failure) c.in_ok-text.ensures.ok bad))
    c.inputs_of_text.ensures.err

pub returns-clause-accepted : goal.returns-clause-accepted
returns-clause-accepted c = λ utf8 good.
    c.inputs_of_text.ensures.accepted (subst (IsTextOfInputs c.args.net.now) (sym c.in_ok-text.ensures.ok) good)
