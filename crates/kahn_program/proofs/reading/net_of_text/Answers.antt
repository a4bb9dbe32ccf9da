use Rattle.std.proofs.Common.{◌∙◌, ap, sym, subst, List}
use Rattle.net_text.specs.Trees.{DeclarationTree}
use Rattle.net_check.specs.Resolution.{Resolves}
use Rattle.kahn_program.specs.Readings.{bad_text, bad_net, net_failure_of, text_failure_of}
use Rattle.kahn_program.specs.declared.failure.Source.TheVariants as source
use Rattle.kahn_program.proofs.reading.net_of_text.Goals as goal

pub returns-in-Err-clause-err : goal.returns-in-Err-clause-err
returns-in-Err-clause-err c = bad_text c.in-Err.fault c.in-Err.ensures.err c.text_failure.ensures

pub returns-in-Err-clause-accepted : goal.returns-in-Err-clause-accepted
returns-in-Err-clause-accepted c =
    λ good. c.text_failure.ensures ∙ ap (text_failure_of source.Net) (c.in-Err.ensures.only good.tree good.text)

pub returns-in-Err-check-clause-err : goal.returns-in-Err-check-clause-err
returns-in-Err-check-clause-err c =
    bad_net _ c.in-Err-check.fault c.in-Ok.ensures.ok c.in-Err-check.ensures.fault c.net_failure.ensures

pub returns-in-Err-check-clause-accepted : goal.returns-in-Err-check-clause-accepted
returns-in-Err-check-clause-accepted c = λ good.
    let resolved =
    subst (λ (tree : List DeclarationTree). Resolves tree good.channels good.processes good.network)
    (sym (c.in-Ok.ensures.only good.tree good.text)) good.resolved in
    c.net_failure.ensures
    ∙ ap (net_failure_of source.Net)
    (c.in-Err-check.ensures.accepted good.channels good.processes good.network resolved good.valid)
