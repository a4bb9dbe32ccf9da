use Rattle.std.proofs.Common.{ℕ, List, sym, subst}
use Rattle.std.proofs.lemmas.Result.{IfErr-weaker, err_from_is_err_and}
use Rattle.cobaltmidge.specs.Texts.{IsTextOfNet}
use Rattle.kahn_program.specs.Readings.{IsNetFailure, IsNetTextFailure, net_not_text, net_refused}
use Rattle.kahn_program.proofs.reading.read_net.Goals as goal

pub returns-in_err-text-clause-err : goal.returns-in_err-text-clause-err
returns-in_err-text-clause-err c =
    let p = err_from_is_err_and c.from_residual.result c.from_residual.ensures.1 in
    rw (p.1, p.2) (net_not_text c.in_err-text.ensures.err)

pub returns-in_err-text-clause-accepted : goal.returns-in_err-text-clause-accepted
returns-in_err-text-clause-accepted c = λ utf8 good. absurd (c.in_err-text.ensures.err.1 utf8)

pub returns-clause-err : goal.returns-clause-err
returns-clause-err c =
    IfErr-weaker c.net_of_text.result (IsNetTextFailure c.in_ok-text.text.now) (IsNetFailure c.args.bytes.now)
    (λ failure bad. net_refused (subst (λ (bytes : List ℕ). IsNetTextFailure bytes failure) c.in_ok-text.ensures.ok bad))
    c.net_of_text.ensures.err

pub returns-clause-accepted : goal.returns-clause-accepted
returns-clause-accepted c = λ utf8 good.
    c.net_of_text.ensures.accepted (subst IsTextOfNet (sym c.in_ok-text.ensures.ok) good)
