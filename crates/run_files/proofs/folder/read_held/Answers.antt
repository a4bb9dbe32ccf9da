use Rattle.run_files.proofs.Caused.{missing_by}
use Rattle.run_files.proofs.folder.read_held.Goals as goal

pub returns-in-Ok-clause-read : goal.returns-in-Ok-clause-read
returns-in-Ok-clause-read g c = c.in-Ok.ensures.under _ c.requires.held

pub returns-in-Err-clause-cause : goal.returns-in-Err-clause-cause
returns-in-Err-clause-cause g c = missing_by _ _ _ _ _ c.refused_by.ensures c.of_missing-refusal.ensures c.in-Err.ensures.fault
