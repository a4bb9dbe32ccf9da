use Rattle.std.proofs.Common.{arith}
use Rattle.std.proofs.lemmas.Grind.{elements}
use Rattle.node.proofs.plan.carry_out.Goals as goal

pub returns-in-Undue-clause-event : goal.returns-in-Undue-clause-event
returns-in-Undue-clause-event g c = grind (arith, elements)

pub returns-in-Exhausted-clause-event : goal.returns-in-Exhausted-clause-event
returns-in-Exhausted-clause-event g c = grind (arith, elements)

pub returns-in-Planned-clause-event : goal.returns-in-Planned-clause-event
returns-in-Planned-clause-event g c = grind (arith, elements)
