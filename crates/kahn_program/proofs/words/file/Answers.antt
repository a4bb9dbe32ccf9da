use Rattle.std.proofs.lemmas.Grind.{elements}
use Rattle.std.proofs.Common.{arith}
use Rattle.kahn_program.proofs.words.file.Goals as goal

pub returns-clause-rule : goal.returns-clause-rule
returns-clause-rule c = grind (arith, elements)
