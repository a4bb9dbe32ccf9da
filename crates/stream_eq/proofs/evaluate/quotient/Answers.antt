use Rattle.std.proofs.lemmas.Grind.{common_steps}
use Rattle.std.proofs.Common.{arith}
use Rattle.stream_eq.proofs.evaluate.quotient.Goals as goal

pub returns : goal.returns
returns c = grind (arith, common_steps)
