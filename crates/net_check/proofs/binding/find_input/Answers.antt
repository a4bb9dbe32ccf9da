use Rattle.std.proofs.lemmas.Grind.{elements}
use Rattle.std.proofs.Common.{arith}
use Rattle.net_check.proofs.binding.find_input.Goals as goal

pub returns-in-Outside : goal.returns-in-Outside
returns-in-Outside c = grind (arith, elements)

pub returns-in-Process : goal.returns-in-Process
returns-in-Process c = grind (arith, elements)

pub returns-in_err-channel : goal.returns-in_err-channel
returns-in_err-channel c = grind (arith, elements)
