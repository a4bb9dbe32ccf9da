use Rattle.run_files.proofs.Going.{goes_still}
use Rattle.std.proofs.lemmas.Grind.{elements}
use Rattle.std.proofs.Common.{arith}
use Rattle.run_files.proofs.folder.give_one.Goals as goal

pub returns-then-not-is_named-clause-goes : goal.returns-then-not-is_named-clause-goes
returns-then-not-is_named-clause-goes g c = goes_still _ _ _

pub returns-clause-used : goal.returns-clause-used
returns-clause-used g c = grind (arith, elements)
