use Rattle.std.specs.Prelude.{string_bytes}
use Rattle.status_program.proofs.Telling.{asked_reads, asked_then, failed_before}
use Rattle.status_program.proofs.program.main_of.Goals as goal

pub returns-in-Ok-clause-asked : goal.returns-in-Ok-clause-asked
returns-in-Ok-clause-asked g c =
    let folder = string_bytes c.args.options.now.folder in
    asked_then folder _ _ _ (asked_reads folder _ _ c.status_of.ensures.asked) c.say.ensures.asked

pub returns-in-Ok-clause-failed : goal.returns-in-Ok-clause-failed
returns-in-Ok-clause-failed g c = λ is.
    failed_before (string_bytes c.args.options.now.folder) _ _ _ c.status_of.ensures.asked (c.say.ensures.failed is)

pub returns-in-Err-clause-asked : goal.returns-in-Err-clause-asked
returns-in-Err-clause-asked g c =
    let folder = string_bytes c.args.options.now.folder in
    asked_then folder _ _ _ (asked_reads folder _ _ c.status_of.ensures.asked) c.tell.ensures.asked

pub returns-in-Err-clause-failed : goal.returns-in-Err-clause-failed
returns-in-Err-clause-failed g c = λ is.
    failed_before (string_bytes c.args.options.now.folder) _ _ _ c.status_of.ensures.asked c.tell.ensures.failed
