use Rattle.std.proofs.Common.{refl}
use Rattle.kahn_program.specs.Causes.{unsaid}
use Rattle.kahn_program.proofs.Causes.{cause_later, failed_by}
use Rattle.kahn_program.proofs.Said.{has_report_later}
use Rattle.kahn_program.proofs.Logs.{keeps_goes, keeps_then}
use Rattle.std.proofs.lemmas.Grind.{elements}
use Rattle.std.proofs.Common.{arith}
use Rattle.kahn_program.proofs.program.main_by_names.Goals as goal

pub returns-in-Ok-clause-keeps : goal.returns-in-Ok-clause-keeps
returns-in-Ok-clause-keeps g c = keeps_then _ _ _ _ c.report_asked.ensures.keeps (keeps_goes _ _ _ c.say_report.ensures.goes)

pub returns-in-Err-clause-keeps : goal.returns-in-Err-clause-keeps
returns-in-Err-clause-keeps g c = keeps_then _ _ _ _ c.report_asked.ensures.keeps (keeps_goes _ _ _ c.tell_stop.ensures.goes)

pub returns-in-Ok-clause-done : goal.returns-in-Ok-clause-done
returns-in-Ok-clause-done g c complete same =
    let said = c.say_report.ensures.said complete same in record {
      text = c.in-Ok.report.bytes.items;
      report = has_report_later _ _ _ _ _ _ c.say_report.ensures.goes.later said.0 c.in-Ok.ensures.report;
      said = said.1;
    }

pub returns-in-Err-clause-refused : goal.returns-in-Err-clause-refused
returns-in-Err-clause-refused g c is =
    let told = c.tell_stop.ensures.told is in record {
      failure = c.in-Err.stop.failure;
      of_text = told.0;
      cause = cause_later _ _ _ _ _ c.requires.wanted c.tell_stop.ensures.goes.later c.in-Err.ensures.cause;
      told = told.1;
    }

pub returns-in-Ok-clause-failed : goal.returns-in-Ok-clause-failed
returns-in-Ok-clause-failed g c = λ is.
    let said = c.say_report.ensures.failed is in
    unsaid c.in-Ok.report.bytes.items c.in-Ok.report.complete said.0
    (has_report_later _ _ _ _ _ _ c.say_report.ensures.goes.later refl c.in-Ok.ensures.report) said.1

pub returns-in-Err-clause-failed : goal.returns-in-Err-clause-failed
returns-in-Err-clause-failed g c = λ is.
    failed_by _ _ _ _ _ _ c.requires.wanted c.tell_stop.ensures.goes.later c.in-Err.ensures.cause (c.tell_stop.ensures.failed is)

pub returns-in-Err-clause-done : goal.returns-in-Err-clause-done
returns-in-Err-clause-done g c = grind (arith, elements)

pub returns-in-Ok-clause-refused : goal.returns-in-Ok-clause-refused
returns-in-Ok-clause-refused g c = grind (arith, elements)
