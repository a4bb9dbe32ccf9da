use Rattle.run_files.proofs.Caused.{failed_by}
use Rattle.run_files.proofs.folder.settle_one.Goals as goal

pub returns-in-Err-clause-cause : goal.returns-in-Err-clause-cause
returns-in-Err-clause-cause g c = failed_by _ _ _ _ _ _ c.refused_by.ensures c.in-Err.ensures.fault tt
