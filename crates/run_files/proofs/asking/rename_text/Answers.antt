use Rattle.run_files.proofs.Left.{renamed_gone_self}
use Rattle.run_files.proofs.asking.rename_text.Goals as goal

pub returns-clause-gone : goal.returns-clause-gone
returns-clause-gone g c = renamed_gone_self _ _ _ _ _ c.rename.ensures
