use Rattle.std.proofs.Common.{rules, string_bytes, ◌≡◌, ℕ, ℤ, List, Option, Some, None, map}
use Rattle.run_files.specs.Wanted.{wanted_of}
use Rattle.run_files.proofs.Going.{read_later}
use Rattle.cobaltmidge.specs.Scripts.{scripted_of}
use Rattle.host.specs.Requests.{Request}
use Rattle.replay.specs.declared.kept.ScriptedEvent.{ScriptedEvent}
use Rattle.kahn_program.specs.Program.{AreKept, IsAccepted, IsWrittenIfAsked, WereHeld, file_names, given_of}
use Rattle.kahn_program.specs.Runs.{IsReport}
use Rattle.kahn_program.specs.Causes.{HasFileFault, IsStopped}
use Rattle.kahn_program.specs.declared.network_run.Report.{Report}
use Rattle.kahn_program.specs.declared.program.Stop.{Stop}
use Rattle.kahn_program.proofs.Logs.{keeps_goes, keeps_then}
use Rattle.kahn_program.proofs.Said.{held_asked, if_ok, kept_asked, none_asked, none_held, report_maps}
use Rattle.std.proofs.lemmas.Result.{err_from_is_err_and}
use Rattle.kahn_program.proofs.Causes.{if_err, stopped_by_files, stopped_later}
use Rattle.kahn_program.proofs.program.run_asked.Goals as goal

pub run_kept-requires-clause-ready : goal.run_kept-requires-clause-ready
run_kept-requires-clause-ready g c κs within = record {
  given = given_of c.args.all.texts;
  read = read_later IsAccepted _ _ _ _ c.tell_apart.ensures.goes.later c.requires.read;
  accepted = c.requires.accepted;
  apart = c.in_ok-tell_apart.ensures.apart;
}

pub run_kept-requires-clause-read : goal.run_kept-requires-clause-read
run_kept-requires-clause-read g c κs within = read_later IsAccepted _ _ _ _ c.tell_apart.ensures.goes.later c.requires.read

pub returns-in-Some-clause-keeps : goal.returns-in-Some-clause-keeps
returns-in-Some-clause-keeps g c = keeps_then _ _ _ _ (keeps_goes _ _ _ c.tell_apart.ensures.goes) c.run_kept.ensures.keeps

pub run_over-requires-clause-ready : goal.run_over-requires-clause-ready
run_over-requires-clause-ready g c κs within = record {
  given = given_of c.args.all.texts;
  read = read_later IsAccepted _ _ _ _ c.tell_apart.ensures.goes.later c.requires.read;
  accepted = c.requires.accepted;
  apart = c.in_ok-tell_apart.ensures.apart;
}

pub returns-clause-keeps : goal.returns-clause-keeps
returns-clause-keeps g c = keeps_then _ _ _ _ (keeps_goes _ _ _ c.tell_apart.ensures.goes) (keeps_goes _ _ _ c.run_over.ensures.goes)

pub returns-in-Some-clause-report : goal.returns-in-Some-clause-report
returns-in-Some-clause-report g c =
    let sync = c.args.names.now.sync in
    let outputs : List (List ℕ) = file_names c.args.all.net.program.channels.items c.args.all.net.channel_names.items in
    let now : List Request = g.H.Host.asked c.run_kept.new.host in
    let wrote : List ℕ → Type 0 = IsWrittenIfAsked (wanted_of c.args.names.now).history now in
    let script : List ScriptedEvent = map scripted_of c.args.all.lines.items in
    let is : (wanted_of c.args.names.now).state ≡ Some (string_bytes c.in-Some.folder) = search rules in
    let held : Option (List ℕ) → Type 0 = λ counts. WereHeld sync (Some (string_bytes c.in-Some.folder)) outputs now counts in
    let holds : Option (List ℕ) → Type 0 = λ counts. WereHeld sync (wanted_of c.args.names.now).state outputs now counts in
    if_ok
    (λ (report : Report). IsReport held (AreKept sync (Some (string_bytes c.in-Some.folder)) outputs now) wrote c.args.options.now c.args.all.net
    c.args.all.inputs script report.bytes.items report.complete)
    (λ (report : Report). IsReport holds (AreKept sync (wanted_of c.args.names.now).state outputs now) wrote c.args.options.now
    c.args.all.net c.args.all.inputs script report.bytes.items report.complete)
    c.run_kept.result
    (λ report has. report_maps held holds (AreKept sync (Some (string_bytes c.in-Some.folder)) outputs now) (AreKept sync (wanted_of c.args.names.now).state outputs now)
    wrote wrote c.args.options.now c.args.all.net c.args.all.inputs script report.bytes.items report.complete
    (held_asked sync ((wanted_of c.args.names.now).state) (string_bytes c.in-Some.folder) outputs now is) (kept_asked sync ((wanted_of c.args.names.now).state) (string_bytes c.in-Some.folder) outputs now is) (λ t written. written) has)
    c.run_kept.ensures.report

pub returns-clause-report : goal.returns-clause-report
returns-clause-report g c =
    let sync = c.args.names.now.sync in
    let outputs : List (List ℕ) = file_names c.args.all.net.program.channels.items c.args.all.net.channel_names.items in
    let now : List Request = g.H.Host.asked c.run_over.new.host in
    let wrote : List ℕ → Type 0 = IsWrittenIfAsked (wanted_of c.args.names.now).history now in
    let script : List ScriptedEvent = map scripted_of c.args.all.lines.items in
    let any : List (List ℤ) → Type 0 = λ streams. Unit {0} in
    let is : (wanted_of c.args.names.now).state ≡ None = search rules in
    let none : Option (List ℕ) → Type 0 = λ counts. counts ≡ None in
    let held : Option (List ℕ) → Type 0 = λ counts. WereHeld sync (wanted_of c.args.names.now).state outputs now counts in
    if_ok
    (λ (report : Report). IsReport none any wrote c.args.options.now c.args.all.net c.args.all.inputs script report.bytes.items report.complete)
    (λ (report : Report). IsReport held (AreKept sync (wanted_of c.args.names.now).state outputs now) wrote c.args.options.now
    c.args.all.net c.args.all.inputs script report.bytes.items report.complete)
    c.run_over.result
    (λ report has. report_maps none held any (AreKept sync (wanted_of c.args.names.now).state outputs now) wrote wrote c.args.options.now c.args.all.net
    c.args.all.inputs script report.bytes.items report.complete
    (none_held sync ((wanted_of c.args.names.now).state) outputs now is)
    (λ streams kept. none_asked sync ((wanted_of c.args.names.now).state) outputs now is streams) (λ t written. written) has)
    c.run_over.ensures.report

pub returns-in_err-tell_apart-clause-cause : goal.returns-in_err-tell_apart-clause-cause
returns-in_err-tell_apart-clause-cause g c =
    let p = err_from_is_err_and c.from_residual.result c.from_residual.ensures.1 in
    rw p.1 (stopped_by_files _ _ _ _ _ p.2 c.in_err-tell_apart.ensures.cause)

pub returns-clause-cause : goal.returns-clause-cause
returns-clause-cause g c =
    let o = wanted_of c.args.names.now in
    let now : List Request = g.H.Host.asked c.run_over.new.host in
    let none : ℕ → Type 0 = λ number. ⊥ in
    if_err (λ (stop : Stop). IsStopped none o now stop.failure) (λ (stop : Stop). IsStopped (HasFileFault o now) o now stop.failure)
    c.run_over.result (λ stop h. stopped_later none (HasFileFault o now) o now now stop.failure (λ r is. is) (λ number is. absurd is) h)
    c.run_over.ensures.cause

pub returns-in_err-tell_apart-clause-keeps : goal.returns-in_err-tell_apart-clause-keeps
returns-in_err-tell_apart-clause-keeps g c = keeps_goes _ _ _ c.tell_apart.ensures.goes
