use Rattle.std.proofs.Common.{◌∙◌, ℤ, List, ap, subst, sym}
use Rattle.rerun.specs.Whole.{inputs_in, net_in, table_in}
use Rattle.station.specs.declared.output.Output.{Output}
use Rattle.folder_status.specs.Endings.{are_compared, AreRight, AreStreams, IsWrongAt}
use Rattle.folder_status.proofs.Judging.{other, streams}
use Rattle.folder_status.proofs.verdict.find_verdict.Goals as goal

pub returns-in-Some-clause-other : goal.returns-in-Some-clause-other
returns-in-Some-clause-other c = λ is.
    let again = c.args.again.now in
    other (net_in again.rerun) again.rerun.net.value.valid (inputs_in again.rerun) again.rerun.fits (table_in again.rerun) c.args.kept.now
    again.outputs.items c.requires again.listed again.taken c.has_all-all.result c.has_all-all.ensures c.in-Some.place
    (subst (λ (outputs : List (Output (List ℤ))). IsWrongAt c.has_all-all.result c.args.kept.now outputs c.in-Some.place) c.deref.ensures.value
    c.in-Some.ensures.some)

pub ending_of-requires-clause-right : goal.ending_of-requires-clause-right
ending_of-requires-clause-right c =
    subst (AreRight c.has_all-all.result c.args.kept.now) c.deref.ensures.value c.in-None.ensures.none

pub returns-in_ok-list_compared-in-None-clause-streams : goal.returns-in_ok-list_compared-in-None-clause-streams
returns-in_ok-list_compared-in-None-clause-streams c =
    let again = c.args.again.now in
    let kept = c.args.kept.now in
    subst (AreStreams (net_in again.rerun) (inputs_in again.rerun) kept)
    (sym (c.in_ok-list_compared-in-None.ensures ∙ ap (are_compared kept) c.deref-in-None.ensures.value))
    (streams (net_in again.rerun) again.rerun.net.value.valid (inputs_in again.rerun) again.rerun.fits (table_in again.rerun) kept
    again.outputs.items c.requires again.listed again.taken c.has_all-all.result
    (subst (AreRight c.has_all-all.result kept) c.deref.ensures.value c.in-None.ensures.none))
