use Rattle.std.proofs.Common.{arith}
use Rattle.std.proofs.lemmas.Grind.{common_steps}
use Rattle.net_check.proofs.inputs.is_empty_where_made.Goals as goal

pub returns-in-Process : goal.returns-in-Process
returns-in-Process c = grind (arith, common_steps)
