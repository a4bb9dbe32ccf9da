use Rattle.std.proofs.Common.{rules, ◌≡◌, string_bytes, subst, sym, map, List, Option, Some, ℕ, ℤ}
use Rattle.std.proofs.lemmas.Result.{err_from_is_err_and}
use Rattle.std.specs.Prelude.{IfOk}
use Rattle.cobaltmidge.specs.Scripts.{scripted_of}
use Rattle.replay.specs.declared.kept.ScriptedEvent.{ScriptedEvent}
use Rattle.run_files.specs.Opening.{AreUsed, opened_names}
use Rattle.run_files.specs.Wanted.{wanted_of}
use Rattle.run_files.specs.declared.fault.FilesFault.TheVariants.{Astray}
use Rattle.run_files.proofs.Caused.{caused_as}
use Rattle.run_files.proofs.Going.{goes_then, opened_goes}
use Rattle.kahn_program.specs.Causes.{HasFileFault, IsStopped}
use Rattle.kahn_program.specs.KeptFiles.{AreInFiles, HasFailedBy, held_counts}
use Rattle.kahn_program.specs.Program.{AreKeptIn, IsWrittenIfAsked, WereHeld}
use Rattle.kahn_program.specs.Runs.{IsReport}
use Rattle.kahn_program.specs.declared.network_run.Report.{Report}
use Rattle.kahn_program.specs.declared.program.Stop.{Stop}
use Rattle.kahn_program.proofs.Causes.{if_err, stopped_by_files, stopped_later}
use Rattle.kahn_program.proofs.FileFaults.{fault_in_log}
use Rattle.cobaltmidge.proofs.InFolder.{all_held_later, held_in, kept_in}
use Rattle.kahn_program.proofs.Said.{if_ok, report_maps, written_later}
use Rattle.kahn_program.proofs.program.run_locked.Goals as goal

pub give_back-requires-clause-held : goal.give_back-requires-clause-held
give_back-requires-clause-held g c κs within = c.run_over-report.ensures.goes.held _ c.requires.held

pub give_back-requires-clause-opened : goal.give_back-requires-clause-opened
give_back-requires-clause-opened g c κs within = opened_goes _ _ _ _ _ _ _ c.run_over-report.ensures.goes c.requires.opened

pub returns-in_err-give_back-clause-goes : goal.returns-in_err-give_back-clause-goes
returns-in_err-give_back-clause-goes g c = search (rules, goes_then)

pub returns-clause-goes : goal.returns-clause-goes
returns-clause-goes g c = search (rules, goes_then)

pub returns-clause-report : goal.returns-clause-report
returns-clause-report g c =
    let closed = c.run_over-report.new.keeper.closed.items in
    let sync = c.args.names.now.sync in
    let script : List ScriptedEvent = map scripted_of c.args.asked.lines.items in
    let history = (wanted_of c.args.names.now).history in
    let before = g.H.Host.asked c.run_over-report.new.host in
    let now = g.H.Host.asked c.give_back.new.host in
    let filed : List (List ℤ) → Type 0 = λ streams. AreInFiles closed streams in
    let kept : List (List ℤ) → Type 0 = λ streams.
    AreKeptIn sync (string_bytes c.args.folder.now) (opened_names c.args.opened.now) now streams in
    let counted : Option (List ℕ) → Type 0 = λ counts. counts ≡ Some (held_counts c.args.files.items) in
    let held : Option (List ℕ) → Type 0 = λ counts.
    WereHeld sync (Some (string_bytes c.args.folder.now)) (opened_names c.args.opened.now) now counts in
    if_ok
    (λ (report : Report). IsReport counted filed (IsWrittenIfAsked history before) c.args.options.now c.args.asked.net c.args.asked.inputs script
    report.bytes.items report.complete)
    (λ (report : Report). IsReport held kept (IsWrittenIfAsked history now) c.args.options.now c.args.asked.net c.args.asked.inputs script
    report.bytes.items report.complete)
    c.run_over-report.result
    (λ report has. report_maps counted held filed kept (IsWrittenIfAsked history before) (IsWrittenIfAsked history now) c.args.options.now c.args.asked.net
    c.args.asked.inputs script report.bytes.items report.complete
    (λ counts is. subst held (sym is) (all_held_later sync (string_bytes c.args.folder.now) (opened_names c.args.opened.now) _ now
    (λ r h. c.give_back.ensures.goes.later r (c.run_over-report.ensures.goes.later r h)) _
    (held_in sync (string_bytes c.args.folder.now) c.args.opened.now c.args.files.items _ c.requires.opened c.requires.files)))
    (λ streams are. kept_in sync (string_bytes c.args.folder.now) c.args.opened.now closed now
    (opened_goes _ _ _ _ _ _ _ (goes_then _ _ _ _ _ c.run_over-report.ensures.goes c.give_back.ensures.goes) c.requires.opened)
    (subst (λ outlets. AreUsed c.args.opened.now outlets now) c.into_closed.ensures c.in_ok-give_back.ensures.used) streams are)
    (written_later history before now c.give_back.ensures.goes.later) has)
    (subst (λ (held : List ℕ). IfOk c.run_over-report.result (λ (report : Report). IsReport (λ counts. counts ≡ Some held) filed
    (IsWrittenIfAsked history before) c.args.options.now c.args.asked.net c.args.asked.inputs script report.bytes.items report.complete))
    c.new-keeper.ensures c.run_over-report.ensures.report)

pub returns-in_err-give_back-clause-cause : goal.returns-in_err-give_back-clause-cause
returns-in_err-give_back-clause-cause g c =
    let p = err_from_is_err_and c.from_residual.result c.from_residual.ensures.1 in
    rw p.1 (stopped_by_files _ _ _ _ _ p.2 (caused_as _ _ _ _ Astray c.in_err-give_back.ensures.cause tt))

pub returns-clause-cause : goal.returns-clause-cause
returns-clause-cause g c =
    let o = wanted_of c.args.names.now in
    let before = g.H.Host.asked c.run_over-report.new.host in
    let now = g.H.Host.asked c.give_back.new.host in
    let keeper = c.run_over-report.new.keeper in
    let failed : ℕ → Type 0 = λ number. HasFailedBy keeper number in
    if_err (λ (stop : Stop). IsStopped failed o before stop.failure) (λ (stop : Stop). IsStopped (HasFileFault o now) o now stop.failure)
    c.run_over-report.result
    (λ stop h. stopped_later failed (HasFileFault o now) o before now stop.failure c.give_back.ensures.goes.later
    (λ number fault. fault_in_log o (string_bytes c.args.folder.now) number now c.args.opened.now keeper
    (opened_goes _ _ _ _ _ _ _ (goes_then _ _ _ _ _ c.run_over-report.ensures.goes c.give_back.ensures.goes) c.requires.opened)
    (subst (λ outlets. AreUsed c.args.opened.now outlets now) c.into_closed.ensures c.in_ok-give_back.ensures.used) fault) h)
    c.run_over-report.ensures.cause
