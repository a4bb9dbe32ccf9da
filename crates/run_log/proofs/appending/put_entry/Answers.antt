use Rattle.std.proofs.Common.{arith}
use Rattle.std.proofs.lemmas.Grind.{common_steps}
use Rattle.run_log.proofs.appending.put_entry.Goals as goal

pub returns-then-is_counted : goal.returns-then-is_counted
returns-then-is_counted c = grind (arith, common_steps)

pub returns : goal.returns
returns c = grind (arith, common_steps)
