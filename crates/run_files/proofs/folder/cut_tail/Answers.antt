use Rattle.run_files.proofs.Caused.{failed_by}
use Rattle.std.proofs.lemmas.Grind.{elements}
use Rattle.std.proofs.Common.{arith}
use Rattle.run_files.proofs.folder.cut_tail.Goals as goal

pub returns-in-Err-clause-cause : goal.returns-in-Err-clause-cause
returns-in-Err-clause-cause g c = failed_by _ _ _ _ _ _ c.refused_by.ensures c.in-Err.ensures.fault tt

pub returns-then-len-clause-goes : goal.returns-then-len-clause-goes
returns-then-len-clause-goes g c = grind (arith, elements)
