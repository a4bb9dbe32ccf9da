use Rattle.std.proofs.lemmas.Grind.{elements}
use Rattle.std.proofs.Common.{arith}
use Rattle.proc_step.proofs.job.Job.is_same.Goals as goal

pub returns-then-not-are_same : goal.returns-then-not-are_same
returns-then-not-are_same c = grind (arith, elements)

pub returns-then-self-other-2 : goal.returns-then-self-other-2
returns-then-self-other-2 c = grind (arith, elements)

pub returns-then-self-other : goal.returns-then-self-other
returns-then-self-other c = grind (arith, elements)

pub returns-then-not-is_same : goal.returns-then-not-is_same
returns-then-not-is_same c = grind (arith, elements)

pub returns-then-not-is_same_room : goal.returns-then-not-is_same_room
returns-then-not-is_same_room c = grind (arith, elements)

pub returns : goal.returns
returns c = grind (arith, elements)
