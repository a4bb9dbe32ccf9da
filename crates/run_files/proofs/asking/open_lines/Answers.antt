use Rattle.std.proofs.lemmas.Grind.{elements}
use Rattle.std.proofs.Common.{arith}
use Rattle.run_files.proofs.asking.open_lines.Goals as goal

pub returns-clause-goes : goal.returns-clause-goes
returns-clause-goes g c = grind (arith, elements)
