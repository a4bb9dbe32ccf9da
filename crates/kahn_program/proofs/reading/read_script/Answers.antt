use Rattle.std.proofs.Common.{ℕ, List, sym, subst}
use Rattle.std.proofs.lemmas.Result.{IfErr-weaker, err_from_is_err_and}
use Rattle.fail_script.specs.Lines.{IsScript}
use Rattle.kahn_program.specs.Readings.{IsScriptFailure, IsScriptTextFailure, script_not_text, script_refused}
use Rattle.kahn_program.proofs.reading.read_script.Goals as goal

pub returns-in_err-text-clause-err : goal.returns-in_err-text-clause-err
returns-in_err-text-clause-err c =
    let p = err_from_is_err_and c.from_residual.result c.from_residual.ensures.1 in
    rw (p.1, p.2) (script_not_text c.in_err-text.ensures.err)

pub returns-in_err-text-clause-accepted : goal.returns-in_err-text-clause-accepted
returns-in_err-text-clause-accepted c = λ lines utf8 good. absurd (c.in_err-text.ensures.err.1 utf8)

pub returns-clause-err : goal.returns-clause-err
returns-clause-err c =
    IfErr-weaker c.script_of_text.result (IsScriptTextFailure c.args.nodes c.in_ok-text.text.now)
    (IsScriptFailure c.args.nodes c.args.bytes.now)
    (λ failure bad. script_refused (subst (λ (bytes : List ℕ). IsScriptTextFailure c.args.nodes bytes failure) c.in_ok-text.ensures.ok bad))
    c.script_of_text.ensures.err

pub returns-clause-accepted : goal.returns-clause-accepted
returns-clause-accepted c = λ lines utf8 good.
    c.script_of_text.ensures.accepted lines (subst (λ (text : List ℕ). IsScript c.args.nodes text lines) (sym c.in_ok-text.ensures.ok) good)
