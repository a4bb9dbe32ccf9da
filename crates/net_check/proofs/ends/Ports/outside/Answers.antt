use Rattle.std.proofs.lemmas.Grind.{elements}
use Rattle.std.proofs.Common.{arith}
use Rattle.net_check.proofs.ends.Ports.outside.Goals as goal

pub returns-clause-count : goal.returns-clause-count
returns-clause-count c = grind (arith, elements)

pub returns-clause-outside : goal.returns-clause-outside
returns-clause-outside c = grind (arith, elements)

pub returns-in_err-push-clause-count : goal.returns-in_err-push-clause-count
returns-in_err-push-clause-count c = grind (arith, elements)

pub returns-in_err-push-clause-outside : goal.returns-in_err-push-clause-outside
returns-in_err-push-clause-outside c = grind (arith, elements)

pub loop-preserved : goal.loop-preserved
loop-preserved c = grind (arith, elements)
