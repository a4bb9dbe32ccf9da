use Rattle.std.proofs.Common.{arith}
use Rattle.std.proofs.lemmas.Grind.{common_steps}
use Rattle.node_memory.proofs.sending.add_answers.Goals as goal

pub returns : goal.returns
returns c = grind (arith, common_steps)
