use Rattle.std.proofs.lemmas.Grind.{common_steps}
use Rattle.std.proofs.Common.{arith}
use Rattle.history_text.proofs.event.DeedWordsDisplay.fmt.Goals as goal

pub returns-in-Deliver-clause-writes : goal.returns-in-Deliver-clause-writes
returns-in-Deliver-clause-writes g c = grind (arith, common_steps)

pub returns-in-Arm-clause-writes : goal.returns-in-Arm-clause-writes
returns-in-Arm-clause-writes g c = grind (arith, common_steps)

pub returns-in-Crash-clause-writes : goal.returns-in-Crash-clause-writes
returns-in-Crash-clause-writes g c = grind (arith, common_steps)
