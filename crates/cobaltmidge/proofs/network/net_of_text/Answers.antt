use Rattle.std.proofs.Common.{◌∙◌, ap, sym, subst, List}
use Rattle.net_text.specs.Trees.{DeclarationTree}
use Rattle.net_check.specs.Resolution.{Resolves}
use Rattle.cobaltmidge.specs.Errors.{net_error, net_text_error}
use Rattle.cobaltmidge.specs.Texts.{bad_text, bad_net}
use Rattle.cobaltmidge.proofs.network.net_of_text.Goals as goal

pub returns-in-Err-clause-err : goal.returns-in-Err-clause-err
returns-in-Err-clause-err c = bad_text c.in-Err.fault c.in-Err.ensures.err c.net_text_error.ensures

pub returns-in-Err-clause-accepted : goal.returns-in-Err-clause-accepted
returns-in-Err-clause-accepted c =
    λ good. c.net_text_error.ensures ∙ ap net_text_error (c.in-Err.ensures.only good.tree good.text)

pub returns-in-Err-check-clause-err : goal.returns-in-Err-check-clause-err
returns-in-Err-check-clause-err c =
    bad_net _ c.in-Err-check.fault c.in-Ok.ensures.ok c.in-Err-check.ensures.fault c.net_error.ensures

pub returns-in-Err-check-clause-accepted : goal.returns-in-Err-check-clause-accepted
returns-in-Err-check-clause-accepted c = λ good.
    let resolved =
    subst (λ (tree : List DeclarationTree). Resolves tree good.channels good.processes good.network)
    (sym (c.in-Ok.ensures.only good.tree good.text)) good.resolved in
    c.net_error.ensures
    ∙ ap net_error
    (c.in-Err-check.ensures.accepted good.channels good.processes good.network resolved good.valid)
