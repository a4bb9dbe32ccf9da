use Rattle.std.proofs.Common.{arith}
use Rattle.std.proofs.lemmas.Grind.{common_steps, elements}
use Rattle.node.proofs.checkpoint.plan_start.Goals as goal

pub returns-then-not-can_start-clause-view : goal.returns-then-not-can_start-clause-view
returns-then-not-can_start-clause-view c = grind (arith, elements)

pub returns-then-highest-ge-MAX_COUNT-clause-view : goal.returns-then-highest-ge-MAX_COUNT-clause-view
returns-then-highest-ge-MAX_COUNT-clause-view c = grind (arith, elements)

pub returns-clause-view : goal.returns-clause-view
returns-clause-view c = grind (arith, common_steps)
