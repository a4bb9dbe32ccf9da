use Rattle.std.proofs.Common.{rules}
use Rattle.run_files.proofs.Going.{goes_more, goes_then, goes_with, in_any, ready_goes}
use Rattle.run_files.proofs.Left.{err_as, in_fault, ok_as}
use Rattle.run_files.proofs.Caused.{caused_as, unwritten_by}
use Rattle.std.proofs.Common.{refl, Ok, string_bytes}
use Rattle.host.specs.Requests.{Has, Looked}
use Rattle.host.specs.declared.host.Standing.TheVariants.{Folder}
use Rattle.run_files.specs.Causes.{is_folder}
use Rattle.run_files.specs.declared.fault.FilesFault.TheVariants.{Unwritten}
use Rattle.run_files.proofs.happened.open_history.Goals as goal

pub open_device-requires-clause-ready : goal.open_device-requires-clause-ready
open_device-requires-clause-ready g c κs within = ready_goes _ _ _ _ c.look.ensures.goes c.requires.ready

pub make_beside-requires-clause-ready : goal.make_beside-requires-clause-ready
make_beside-requires-clause-ready g c κs within = ready_goes _ _ _ _ c.look.ensures.goes c.requires.ready

pub returns-in-Ok-Device-clause-goes : goal.returns-in-Ok-Device-clause-goes
returns-in-Ok-Device-clause-goes g c =
    in_any _ _ (λ history. goes_more _ _ _ _ _ (goes_then _ _ _ _ _ c.look.ensures.goes c.open_device.ensures.goes))

pub returns-in-Ok-Device-clause-failed : goal.returns-in-Ok-Device-clause-failed
returns-in-Ok-Device-clause-failed g c = in_fault _ _ (λ refused. goes_then _ _ _ _ _ c.look.ensures.goes c.open_device.ensures.goes)

pub returns-in-Ok-File-clause-goes : goal.returns-in-Ok-File-clause-goes
returns-in-Ok-File-clause-goes g c =
    ok_as _ _ _ (λ history goes. goes_with _ _ _ _ _ _ c.look.ensures.goes goes) c.make_beside.ensures.goes

pub returns-in-Ok-File-clause-failed : goal.returns-in-Ok-File-clause-failed
returns-in-Ok-File-clause-failed g c = err_as _ _ _ (λ refused goes. goes_then _ _ _ _ _ c.look.ensures.goes goes) c.make_beside.ensures.failed

pub returns-in-Ok-Folder-clause-cause : goal.returns-in-Ok-Folder-clause-cause
returns-in-Ok-Folder-clause-cause g c =
    let looked : Has (Looked (string_bytes c.args.path.now) (Ok Folder)) (g.H.Host.asked c.look.new.host) = search rules in
    caused_as _ _ _ _ Unwritten c.refused_at.ensures (string_bytes c.args.path.now, c.requires.wanted, is_folder looked)

pub returns-in-Err-clause-cause : goal.returns-in-Err-clause-cause
returns-in-Err-clause-cause g c = unwritten_by _ _ _ _ _ _ _ c.refused_by.ensures c.requires.wanted c.in-Err.ensures.fault refl
