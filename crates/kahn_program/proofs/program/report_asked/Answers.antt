use Rattle.std.proofs.Common.{refl}
use Rattle.std.proofs.lemmas.Result.{err_from_is_err_and}
use Rattle.kahn_program.proofs.Causes.{by_approximation, by_stop, if_err}
use Rattle.kahn_program.specs.Program.{given_of}
use Rattle.kahn_program.proofs.Said.{approximation_report, if_ok, run_report}
use Rattle.kahn_program.proofs.Logs.{keeps_goes, keeps_then, script_accepted}
use Rattle.kahn_program.proofs.program.report_asked.Goals as goal

pub run_asked-requires-clause-accepted : goal.run_asked-requires-clause-accepted
run_asked-requires-clause-accepted g c κs within = record {
  net = c.in_ok-all.all.net;
  inputs = c.in_ok-all.all.inputs;
  of_net = c.in_ok-all.ensures.net;
  of_inputs = c.in_ok-all.ensures.inputs;
  of_script = script_accepted _ _ _ _ _ c.in_ok-all.ensures.read.script c.in_ok-all.ensures.lines;
  of_kept = tt;
}

pub returns-in_default-clause-keeps : goal.returns-in_default-clause-keeps
returns-in_default-clause-keeps g c = keeps_then _ _ _ _ (keeps_goes _ _ _ c.read_all.ensures.goes) c.run_asked.ensures.keeps

pub returns-in_default-clause-report : goal.returns-in_default-clause-report
returns-in_default-clause-report g c =
    if_ok _ _ _ (λ report is. run_report _ _ (given_of c.in_ok-all.all.texts) _ _ c.args.names.now.script _ _ _ _ _ c.in_default.is c.requires.wanted refl
    c.in_ok-all.ensures.read c.run_asked.ensures.keeps.later c.in_ok-all.ensures.net c.in_ok-all.ensures.inputs c.in_ok-all.ensures.lines is)
    c.run_asked.ensures.report

pub returns-clause-report : goal.returns-clause-report
returns-clause-report g c =
    approximation_report _ _ _ (given_of c.in_ok-all.all.texts) _ _ _ _ _ c.in-Some.is c.requires.wanted c.in_ok-all.ensures.read
    c.in_ok-all.ensures.net c.in_ok-all.ensures.inputs c.in_ok-bytes.ensures.ok

pub returns-in_default-clause-cause : goal.returns-in_default-clause-cause
returns-in_default-clause-cause g c = if_err _ _ _ (λ stop h. by_stop _ _ _ h) c.run_asked.ensures.cause

pub returns-in_err-bytes-clause-cause : goal.returns-in_err-bytes-clause-cause
returns-in_err-bytes-clause-cause g c =
    let p = err_from_is_err_and c.from_residual-in_err-bytes.result c.from_residual-in_err-bytes.ensures.1 in
    rw p.1 (by_approximation _ _ _ _ c.in_ok-all.all.net _ _ _ _ c.in_ok-all.ensures.read.net c.in_ok-all.ensures.net
    c.in_ok-all.ensures.read.inputs c.in_ok-all.ensures.inputs c.in_err-bytes.ensures.err p.2)

pub returns-in_err-all-clause-keeps : goal.returns-in_err-all-clause-keeps
returns-in_err-all-clause-keeps g c = keeps_goes _ _ _ c.read_all.ensures.goes

pub returns-in_err-bytes-clause-keeps : goal.returns-in_err-bytes-clause-keeps
returns-in_err-bytes-clause-keeps g c = keeps_goes _ _ _ c.read_all.ensures.goes

pub returns-clause-keeps : goal.returns-clause-keeps
returns-clause-keeps g c = keeps_goes _ _ _ c.read_all.ensures.goes
