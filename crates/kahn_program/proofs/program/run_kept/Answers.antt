use Rattle.std.proofs.Common.{string_bytes, ap, ◌∙◌, List, None, refl}
use Rattle.run_files.specs.Opening.{opened_names}
use Rattle.run_files.specs.declared.held_file.OpenedName.{OpenedName}
use Rattle.cobaltmidge.proofs.InFolder.{kept_as}
use Rattle.kahn_program.proofs.Said.{report_maps, were_held_as, written_later}
use Rattle.run_files.proofs.Going.{ready_later}
use Rattle.run_files.proofs.Left.{left_by_goes}
use Rattle.std.proofs.Common.{subst, ◌++◌, ◌∷◌, [], ℕ}
use Rattle.std.proofs.lemmas.Result.{err_from_is_err_and}
use Rattle.run_files.specs.Opening.{paths_in}
use Rattle.run_files.specs.Syncing.{AreSyncedIf}
use Rattle.run_files.specs.Wanted.{wanted_of}
use Rattle.kahn_program.specs.Causes.{HasFileFault}
use Rattle.run_files.proofs.Going.{synced_later}
use Rattle.kahn_program.proofs.Causes.{file_fault_later, stopped_by_files, stopped_later, stopped_none}
use Rattle.std.proofs.lemmas.Grind.{elements}
use Rattle.std.proofs.Common.{arith}
use Rattle.kahn_program.proofs.program.run_kept.Goals as goal

pub open_folder-requires-clause-judged : goal.open_folder-requires-clause-judged
open_folder-requires-clause-judged g c κs within = record {
  given = record { net = c.args.texts.now.net.items; inputs = c.args.texts.now.inputs.items; script = None; kept = None };
  read = record { net = c.requires.read.net; inputs = c.requires.read.inputs };
  net_text = refl;
  inputs_text = refl;
  judged = record { of_net = c.requires.net; of_inputs = c.requires.inputs; of_script = tt };
}

pub run_locked-requires-clause-ready : goal.run_locked-requires-clause-ready
run_locked-requires-clause-ready g c κs within = ready_later _ _ _ _ c.open_folder.ensures.later c.requires.ready

pub let_go-requires-clause-held : goal.let_go-requires-clause-held
let_go-requires-clause-held g c κs within = c.run_locked.ensures.goes.held _ c.in_ok-open.ensures.held

pub returns-in-Ok-clause-keeps : goal.returns-in-Ok-clause-keeps
returns-in-Ok-clause-keeps g c = record {
  rules = λ each. c.let_go.ensures.rules (c.run_locked.ensures.goes.rules (c.open_folder.ensures.rules each));
  later = λ r h. c.let_go.ensures.later r (c.run_locked.ensures.goes.later r (c.open_folder.ensures.later r h));
  free = λ free. c.let_go.ensures.free;
  cleared = λ path left. c.open_folder.ensures.cleared path
      (left_by_goes _ _ _ _ c.run_locked.ensures.goes path (c.let_go.ensures.cleared path left));
}

pub returns-in-Ok-clause-report : goal.returns-in-Ok-clause-report
returns-in-Ok-clause-report g c =
    report_maps _ _ _ _ _ _ c.args.options.now c.args.asked.net c.args.asked.inputs _ _ _
    (were_held_as c.args.names.now.sync (string_bytes c.args.folder.now) (opened_names c.as_slice.result.now) _
    (g.H.Host.asked c.run_locked.new.host) (g.H.Host.asked c.let_go.new.host)
    (ap (λ (opened : List OpenedName). opened_names opened) c.as_slice.ensures.value ∙ (c.in_ok-open.ensures.named ∙ c.in_ok-outputs.ensures))
    c.let_go.ensures.later)
    (kept_as c.args.names.now.sync (string_bytes c.args.folder.now) (opened_names c.as_slice.result.now) _
    (g.H.Host.asked c.run_locked.new.host) (g.H.Host.asked c.let_go.new.host)
    (ap (λ (opened : List OpenedName). opened_names opened) c.as_slice.ensures.value ∙ (c.in_ok-open.ensures.named ∙ c.in_ok-outputs.ensures))
    c.let_go.ensures.later
    (subst (λ (names : List (List ℕ)). AreSyncedIf c.args.names.now.sync
    (paths_in (string_bytes c.args.folder.now) names ++ string_bytes c.args.folder.now ∷ []) (g.H.Host.asked c.let_go.new.host))
    c.in_ok-outputs.ensures
    (synced_later _ _ _ _ (λ r h. c.let_go.ensures.later r (c.run_locked.ensures.goes.later r h)) c.in_ok-open.ensures.synced)))
    (written_later _ _ _ c.let_go.ensures.later) c.in-Ok.ensures.report

pub let_go-requires-in-Err-clause-held : goal.let_go-requires-in-Err-clause-held
let_go-requires-in-Err-clause-held g c κs within = c.run_locked.ensures.goes.held _ c.in_ok-open.ensures.held

pub returns-clause-keeps : goal.returns-clause-keeps
returns-clause-keeps g c = record {
  rules = λ each. c.let_go-in-Err.ensures.rules (c.run_locked.ensures.goes.rules (c.open_folder.ensures.rules each));
  later = λ r h. c.let_go-in-Err.ensures.later r (c.run_locked.ensures.goes.later r (c.open_folder.ensures.later r h));
  free = λ free. c.let_go-in-Err.ensures.free;
  cleared = λ path left. c.open_folder.ensures.cleared path
      (left_by_goes _ _ _ _ c.run_locked.ensures.goes path (c.let_go-in-Err.ensures.cleared path left));
}

pub returns-in_err-outputs-clause-cause : goal.returns-in_err-outputs-clause-cause
returns-in_err-outputs-clause-cause g c =
    let p = err_from_is_err_and c.from_residual.result c.from_residual.ensures.1 in
    rw p.1 (stopped_none _ _ _ _ p.2)

pub returns-in_err-open-clause-cause : goal.returns-in_err-open-clause-cause
returns-in_err-open-clause-cause g c =
    let p = err_from_is_err_and c.from_residual-in_err-open.result c.from_residual-in_err-open.ensures.1 in
    rw p.1 (stopped_by_files _ _ _ _ _ p.2 c.in_err-open.ensures.cause)

pub returns-clause-cause : goal.returns-clause-cause
returns-clause-cause g c =
    let o = wanted_of c.args.names.now in
    let before = g.H.Host.asked c.run_locked.new.host in
    let now = g.H.Host.asked c.let_go-in-Err.new.host in
    stopped_later (HasFileFault o before) (HasFileFault o now) o before now _ c.let_go-in-Err.ensures.later
    (file_fault_later o before now c.let_go-in-Err.ensures.later) c.in-Err.ensures.cause

pub run_locked-requires-clause-opened : goal.run_locked-requires-clause-opened
run_locked-requires-clause-opened g c = grind (arith, elements)

pub run_locked-requires-clause-files : goal.run_locked-requires-clause-files
run_locked-requires-clause-files g c = grind (arith, elements)
