use Rattle.std.proofs.Common.{◌∙◌, ap, sym, subst, List}
use Rattle.net_text.specs.Trees.{InputTree}
use Rattle.net_check.specs.Binding.{Binds}
use Rattle.protocol.specs.Node.Common.{network_of}
use Rattle.cobaltmidge.specs.Errors.{inputs_error, inputs_text_error}
use Rattle.cobaltmidge.specs.Texts.{bad_lines, bad_inputs}
use Rattle.cobaltmidge.proofs.network.inputs_of_text.Goals as goal

pub returns-in-Err-clause-err : goal.returns-in-Err-clause-err
returns-in-Err-clause-err c = bad_lines c.in-Err.fault c.in-Err.ensures.err c.inputs_text_error.ensures

pub returns-in-Err-clause-accepted : goal.returns-in-Err-clause-accepted
returns-in-Err-clause-accepted c =
    λ good. c.inputs_text_error.ensures ∙ ap inputs_text_error (c.in-Err.ensures.only good.lines good.text)

pub returns-in-Err-bind-clause-err : goal.returns-in-Err-bind-clause-err
returns-in-Err-bind-clause-err c =
    bad_inputs _ c.in-Err-bind.fault c.in-Ok.ensures.ok c.in-Err-bind.ensures.fault c.inputs_error.ensures

pub returns-in-Err-bind-clause-accepted : goal.returns-in-Err-bind-clause-accepted
returns-in-Err-bind-clause-accepted c = λ good.
    let net = c.args.net.now in
    let bound =
    subst (λ (lines : List InputTree). Binds net.channel_names.items (network_of net.program) lines good.lists)
    (sym (c.in-Ok.ensures.only good.lines good.text)) good.bound in
    c.inputs_error.ensures ∙ ap inputs_error (c.in-Err-bind.ensures.accepted good.lists bound)
