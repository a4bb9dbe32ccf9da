use Rattle.std.proofs.Common.{List, subst, sym}
use Rattle.kahn_net.specs.Syntax.{network_of}
use Rattle.net_text.specs.Trees.{InputTree}
use Rattle.net_check.specs.Binding.{Binds}
use Rattle.folder_status.specs.Texts.{IsTextOfInputs}
use Rattle.folder_status.proofs.Textual.{net_refused, text_refused}
use Rattle.folder_status.proofs.texts.inputs_of_text.Goals as goal

pub returns-in-Err-clause-cause : goal.returns-in-Err-clause-cause
returns-in-Err-clause-cause c =
    text_refused (IsTextOfInputs c.args.net.now c.args.text.now) c.in-Err.fault _ c.refused_text.ensures
    (λ good. c.in-Err.ensures.only good.lines good.text)

pub returns-in-Err-bind-clause-cause : goal.returns-in-Err-bind-clause-cause
returns-in-Err-bind-clause-cause c =
    let net = c.args.net.now in
    net_refused (IsTextOfInputs net c.args.text.now) c.in-Err-bind.fault _ c.refused_net.ensures
    (λ good. let bound =
    subst (λ (lines : List InputTree). Binds net.channel_names.items (network_of net.program) lines good.lists)
    (sym (c.in-Ok.ensures.only good.lines good.text)) good.bound in
    c.in-Err-bind.ensures.accepted good.lists bound)
