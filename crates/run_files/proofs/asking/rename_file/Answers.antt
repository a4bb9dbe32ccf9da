use Rattle.run_files.proofs.Left.{renamed_gone_self}
use Rattle.std.proofs.lemmas.Grind.{elements}
use Rattle.std.proofs.Common.{arith}
use Rattle.run_files.proofs.asking.rename_file.Goals as goal

pub returns-clause-gone : goal.returns-clause-gone
returns-clause-gone g c = renamed_gone_self _ _ _ _ _ c.rename.ensures

pub returns-clause-goes : goal.returns-clause-goes
returns-clause-goes g c = grind (arith, elements)
