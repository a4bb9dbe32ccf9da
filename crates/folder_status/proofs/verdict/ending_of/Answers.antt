use Rattle.std.proofs.Common.{ℤ, List, subst}
use Rattle.rerun.specs.Whole.{inputs_in, net_in, table_in}
use Rattle.station.specs.declared.output.Output.{Output}
use Rattle.folder_status.specs.Endings.{AreSame, IsShortAt}
use Rattle.folder_status.specs.declared.kept.KeptOutput.{KeptOutput}
use Rattle.folder_status.proofs.Judging.{complete, missed}
use Rattle.folder_status.proofs.Running.{as_many}
use Rattle.folder_status.proofs.verdict.ending_of.Goals as goal

pub returns-in-Some : goal.returns-in-Some
returns-in-Some c =
    let again = c.args.again.now in
    missed (net_in again.rerun) again.rerun.net.value.valid (inputs_in again.rerun) again.rerun.fits (table_in again.rerun) c.args.kept.now
    again.outputs.items c.requires.listed again.listed again.taken c.args.all c.requires.right c.in-Some.field-0
    (subst (λ (outputs : List (Output (List ℤ))). IsShortAt c.args.kept.now outputs c.in-Some.field-0) c.deref.ensures.value c.in-Some.ensures)

pub returns-then-are_same : goal.returns-then-are_same
returns-then-are_same c =
    let again = c.args.again.now in
    complete (net_in again.rerun) again.rerun.net.value.valid (inputs_in again.rerun) again.rerun.fits (table_in again.rerun) c.args.kept.now
    again.outputs.items c.requires.listed again.listed again.taken c.place_law.ensures (c.requires.has c.if-all.true)
    (subst (AreSame c.args.kept.now) c.deref-then-all.ensures.value (c.are_same.ensures c.if-are_same.true))
    (as_many (λ (one : KeptOutput). one.channel) (λ (output : Output (List ℤ)). output.channel) c.args.kept.now again.outputs.items _ c.requires.listed again.listed)
