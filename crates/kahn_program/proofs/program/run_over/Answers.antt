use Rattle.std.proofs.Common.{◌≡◌, ◌∙◌, ap, map, subst}
use Rattle.std.proofs.lemmas.Result.{err_from_is_err_and}
use Rattle.kahn_program.proofs.Causes.{kept_maps, run_stops, stopped_later, stopped_none}
use Rattle.cobaltmidge.specs.Scripts.{scripted_of}
use Rattle.run_files.specs.Wanted.{wanted_of}
use Rattle.kahn_program.specs.Program.{IsWrittenIfAsked}
use Rattle.kahn_program.specs.Runs.{IsReport}
use Rattle.kahn_program.proofs.Said.{report_maps, written_as}
use Rattle.run_files.proofs.Going.{none_left, ready_goes, with_goes}
use Rattle.kahn_program.proofs.program.run_over.Goals as goal

pub finish_if_asked-requires-clause-ready : goal.finish_if_asked-requires-clause-ready
finish_if_asked-requires-clause-ready g c κs within = ready_goes _ _ _ _ c.in_ok-history.ensures.goes c.requires.ready

pub returns-in_err-finish_if_asked-in-Ok-clause-goes : goal.returns-in_err-finish_if_asked-in-Ok-clause-goes
returns-in_err-finish_if_asked-in-Ok-clause-goes g c =
    none_left _ _ _ _ _ (with_goes _ _ _ _ _ _ c.in_ok-history.ensures.goes c.finish_if_asked.ensures.goes) c.finish_if_asked.ensures.gone

pub returns-in-Ok-clause-goes : goal.returns-in-Ok-clause-goes
returns-in-Ok-clause-goes g c =
    none_left _ _ _ _ _ (with_goes _ _ _ _ _ _ c.in_ok-history.ensures.goes c.finish_if_asked.ensures.goes) c.finish_if_asked.ensures.gone

pub returns-in-Ok-clause-report : goal.returns-in-Ok-clause-report
returns-in-Ok-clause-report g c =
    subst (λ script. IsReport (λ counts. counts ≡ g.K.Keeper.held c.args.keeper.now) (g.K.Keeper.has_kept c.report_of_run.new.keeper)
    (IsWrittenIfAsked (wanted_of c.args.names.now).history (g.H.Host.asked c.finish_if_asked.new.host)) c.args.options.now
    c.args.asked.net c.args.asked.inputs script c.in-Ok.report.bytes.items c.in-Ok.report.complete)
    (c.in_ok-events.ensures ∙ ap (map scripted_of) c.deref.ensures.value)
    (report_maps _ _ (g.K.Keeper.has_kept c.report_of_run.new.keeper) _ _ _ c.args.options.now c.args.asked.net c.args.asked.inputs _ _ _
    (λ counts held. held) (λ streams kept. kept) (λ t is. written_as _ _ _ t c.in_ok-finish_if_asked-in-Ok.ensures.written is)
    c.in-Ok.ensures.ok)

pub returns-clause-goes : goal.returns-clause-goes
returns-clause-goes g c =
    none_left _ _ _ _ _ (with_goes _ _ _ _ _ _ c.in_ok-history.ensures.goes c.drop_if_asked.ensures.goes) c.drop_if_asked.ensures.gone

pub returns-in_err-events-clause-cause : goal.returns-in_err-events-clause-cause
returns-in_err-events-clause-cause g c =
    let p = err_from_is_err_and c.from_residual.result c.from_residual.ensures.1 in
    rw p.1 (stopped_none _ _ _ _ p.2)

pub returns-in_err-history-clause-cause : goal.returns-in_err-history-clause-cause
returns-in_err-history-clause-cause g c =
    let p = err_from_is_err_and c.from_residual-in_err-history.result c.from_residual-in_err-history.ensures.1 in
    rw (p.1, p.2) (stopped_later _ _ _ _ _ _ (λ r h. h) (λ number none. absurd none) c.in_err-history.ensures.cause)

pub returns-in_err-finish_if_asked-in-Ok-clause-cause : goal.returns-in_err-finish_if_asked-in-Ok-clause-cause
returns-in_err-finish_if_asked-in-Ok-clause-cause g c =
    let p = err_from_is_err_and c.from_residual-in_err-finish_if_asked-in-Ok.result
    c.from_residual-in_err-finish_if_asked-in-Ok.ensures.1 in
    rw (p.1, p.2) (stopped_later _ _ _ _ _ _ (λ r h. h) (λ number none. absurd none) c.in_err-finish_if_asked-in-Ok.ensures.cause)

pub returns-clause-cause : goal.returns-clause-cause
returns-clause-cause g c =
    run_stops g.K.Keeper.keeps _ _ _ _ c.in-Err.ensures.err (kept_maps _ _ _ c.take_words-words.ensures.same c.in-Err.ensures.cause)
