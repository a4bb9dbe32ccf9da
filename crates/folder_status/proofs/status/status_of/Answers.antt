use Rattle.std.proofs.Common.{rules, subst, sym}
use Rattle.std.specs.Prelude.{string_bytes}
use Rattle.folder_status.specs.Kept.{IsRead}
use Rattle.folder_status.proofs.Held.{differs_by}
use Rattle.folder_status.proofs.status.status_of.Goals as goal

pub returns-in-Err-clause-cause : goal.returns-in-Err-clause-cause
returns-in-Err-clause-cause g c =
    let net = c.in_ok-net-2.net.value in
    let inputs = c.in_ok-inputs.inputs.value in
    let folder = string_bytes c.args.folder.now in
    differs_by folder (g.H.Host.asked c.read_folder.new.host) net inputs c.deref.result.now c.in-Err.refused.fault
    (subst (IsRead folder (g.H.Host.asked c.read_folder.new.host) net inputs) (sym c.deref.ensures.value) (search rules))
    c.in-Err.ensures.other c.in-Err.ensures.faults
