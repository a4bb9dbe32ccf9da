use Rattle.std.proofs.lemmas.Grind.{common_steps}
use Rattle.std.proofs.Common.{arith}
use Rattle.history_text.proofs.event.RuleWordsDisplay.fmt.Goals as goal

pub returns-in-Delay-clause-writes : goal.returns-in-Delay-clause-writes
returns-in-Delay-clause-writes g c = grind (arith, common_steps)

pub returns-in-Lose-clause-writes : goal.returns-in-Lose-clause-writes
returns-in-Lose-clause-writes g c = grind (arith, common_steps)

pub returns-in-Repeat-clause-writes : goal.returns-in-Repeat-clause-writes
returns-in-Repeat-clause-writes g c = grind (arith, common_steps)
