use Rattle.std.proofs.lemmas.Grind.{common_steps}
use Rattle.std.proofs.Common.{arith}
use Rattle.kahn_program.proofs.failure.FailureDisplay.fmt.Goals as goal

pub returns-in-Line-clause-writes : goal.returns-in-Line-clause-writes
returns-in-Line-clause-writes g c = grind (arith, common_steps)
