use Rattle.std.proofs.Common.{List, subst, sym}
use Rattle.net_text.specs.Trees.{DeclarationTree}
use Rattle.net_check.specs.Resolution.{Resolves}
use Rattle.folder_status.specs.Texts.{IsTextOfNet}
use Rattle.folder_status.proofs.Textual.{net_refused, text_refused}
use Rattle.folder_status.proofs.texts.net_of_text.Goals as goal

pub returns-in-Err-clause-cause : goal.returns-in-Err-clause-cause
returns-in-Err-clause-cause c =
    text_refused (IsTextOfNet c.args.text.now) c.in-Err.fault _ c.refused_text.ensures (λ good. c.in-Err.ensures.only good.tree good.text)

pub returns-in-Err-check-clause-cause : goal.returns-in-Err-check-clause-cause
returns-in-Err-check-clause-cause c =
    net_refused (IsTextOfNet c.args.text.now) c.in-Err-check.fault _ c.refused_net.ensures
    (λ good. let resolved =
    subst (λ (tree : List DeclarationTree). Resolves tree good.channels good.processes good.network)
    (sym (c.in-Ok.ensures.only good.tree good.text)) good.resolved in
    c.in-Err-check.ensures.accepted good.channels good.processes good.network resolved good.valid)
