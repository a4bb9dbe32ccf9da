use Rattle.std.proofs.lemmas.Grind.{common_steps, elements}
use Rattle.std.proofs.Common.{arith}
use Rattle.decide_core.proofs.initiator.Initiator.on_took.Goals as goal

pub invariant_of-joined-in_err-add_asks_behind : goal.invariant_of-joined-in_err-add_asks_behind
invariant_of-joined-in_err-add_asks_behind c = grind (arith, elements)

pub invariant_of-joined-2 : goal.invariant_of-joined-2
invariant_of-joined-2 c = grind (arith, elements)

pub returns-clause-joined : goal.returns-clause-joined
returns-clause-joined c = grind (arith, common_steps)
