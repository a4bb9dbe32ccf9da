use Rattle.std.proofs.Common.{arith}
use Rattle.std.proofs.lemmas.Grind.{elements}
use Rattle.node.proofs.hearing.on_ask.Goals as goal

pub returns-in_default-current-clause-view : goal.returns-in_default-current-clause-view
returns-in_default-current-clause-view c = grind (arith, elements)

pub returns-in_default : goal.returns-in_default
returns-in_default c = grind (arith, elements)

pub returns-clause-view : goal.returns-clause-view
returns-clause-view c = grind (arith, elements)
